-- The bins of a packing: SummaryTrees is for bins that are passed over, BinsAtWork for those that are out of their map.
pub mod SummaryTrees
pub mod BinsAtWork
