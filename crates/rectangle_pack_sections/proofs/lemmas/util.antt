-- What is about no subject of this project: parts of lists, pairs of their elements, maps, answers, and what is found.
pub mod Lists
pub mod Maps
pub mod Results
pub mod Searches
pub mod Zips
