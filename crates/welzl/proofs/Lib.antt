-- The run on a whole list, and the proofs of the two functions. A folder whose name starts with + is the toolchain's way of naming
-- the proof of functions that call themselves: `+mtf` is that of `mtf`.
pub mod WholeRun
