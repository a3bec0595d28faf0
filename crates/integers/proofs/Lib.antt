-- Laws of whole numbers, a solver for identities and inequalities over ℤ, and bounds of machine numbers.

-- ℤ as a ring, and the solver
pub mod Laws
pub mod Poly
pub mod Ring
-- size and order
pub mod Abs
pub mod Signs
pub mod Tests
pub mod Order
pub mod Linear
-- signed machine numbers
pub mod Bounds
pub mod Complement
-- the least number that passes a test
pub mod LeastLaws
-- how the solver is used
pub mod Examples
