-- Lists of points: as sets, in rising order, and written into a list of numbers.
pub mod Sets
pub mod Rising
-- of inner contracts
pub mod Put
