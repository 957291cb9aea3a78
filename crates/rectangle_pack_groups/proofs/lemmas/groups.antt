-- Pushes. OnePush: equal pushes leave equal collections.
pub mod OnePush
