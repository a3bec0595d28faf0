-- A line is blank, a point or a fault, and one of these alone.
--
--   blank_fault, blank_point, point_fault : no line is two of them
--   point_same                            : a line is one point
use mathlib.Core.Path.{◌≡◌}
use Prim.Native.Nat.{ℕ}
use native.Mathlib.Omega.{arith}
use Rattle.geometry.specs.declared.Point.{Point}
use Rattle.lines.specs.Line.{blank, point, fault}

pub blank_fault : blank ≡ fault → ⊥
blank_fault e = let z : ◌≡◌ {A = ℕ} 0 1 = cc in omega arith

pub blank_point : (p : Point) → blank ≡ point p → ⊥
blank_point p e = let z : ◌≡◌ {A = ℕ} 0 1 = cc in omega arith

pub point_fault : (p : Point) → point p ≡ fault → ⊥
point_fault p e = let z : ◌≡◌ {A = ℕ} 0 1 = cc in omega arith

pub point_same : (p q : Point) → point p ≡ point q → p ≡ q
point_same p q e = cc
