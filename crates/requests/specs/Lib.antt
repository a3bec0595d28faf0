-- Document 02's claims, one file an item, in the order of the items.
pub mod DrawnPoints
pub mod CutKeepsOff
pub mod RecordCount
pub mod InnerLevel
pub mod ChosenPoints
pub mod TracedPoints
pub mod HullPoints
pub mod FittingPoints
