-- Groups of boxes. GroupOrder: the order of groups is total. Lists: the lists of a map. Alike: look-ups and writes in maps that agree. Excluded: pairs under
-- keys that are equal.
pub mod GroupOrder
pub mod Lists
pub mod Alike
pub mod Excluded
