-- The first support set, as a property of sets (01, "Disk and rim": a rim set, and the first).
--
--   IsSupport P S      == S is a support set of P (01: a rim set), written in rising order: one to three different points of P whose
--                         own smallest disk is that of P
--   Lexical S R        == compared point by point: where S and R first differ, S has the point that comes before
--   Earlier S R        == S has fewer points than R, or as many and comes before it point by point
--   IsFirstSupport P S == S is a support set of P, and every other one comes later
use Rattle.std.specs.Prelude.{◌≡◌, ◌⊎◌, List, ◌∷◌, ◌≤◌, ◌<◌, T, length}
use Rattle.geometry.specs.declared.Point.{Point}
use Rattle.geometry.specs.Plane.{Disk}
use Rattle.geometry.specs.Order.{before}
use Rattle.point_lists.specs.Sets.{In}
use Rattle.point_lists.specs.Rising.{Rising}
use Rattle.disks.specs.Smallest.{Smallest}

pub record IsSupport (P S : List Point) : Type 0 where
  pub rises : Rising S
  pub members : (p : Point) → In p S → In p P
  pub some : 1 ≤ length S
  pub most : length S ≤ 3
  -- the smallest disk of P, and of S too
  pub disk : Disk
  pub whole : Smallest P disk
  pub own : Smallest S disk

pub data Lexical : List Point → List Point → Type 0 where
  here : {p q : Point} {S R : List Point} → T (before p q) → Lexical (p ∷ S) (q ∷ R)
  there : {p q : Point} {S R : List Point} → p ≡ q → Lexical S R → Lexical (p ∷ S) (q ∷ R)

pub data Earlier (S R : List Point) : Type 0 where
  fewer : length S < length R → Earlier S R
  lexical : length S ≡ length R → Lexical S R → Earlier S R

pub record IsFirstSupport (P S : List Point) : Type 0 where
  pub supports : IsSupport P S
  pub first : (R : List Point) → IsSupport P R → (R ≡ S) ⊎ Earlier S R
