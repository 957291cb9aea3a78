-- Lemmas: of the words and names that are read, of lines, of what is printed, of requests that are obeyed, of whole runs; and those of the laws.
-- Of these Kept has what holds of sessions after each answer, and the others stand in the order of their proof that an input has one transcript:
-- what a line asks for, what each transition makes of a session, what an answer is on stores that are alike, and then line after line.
pub mod Words
pub mod Names
pub mod Requests
pub mod ReadLines
pub mod NextLines
pub mod Decimals
pub mod Printing
pub mod Lines
pub mod Stores
pub mod Obeyed
pub mod Transcripts
pub mod Kept
pub mod OneRequest
pub mod OneTransition
pub mod OnePacking
pub mod OneAnswer
pub mod OneTranscript
