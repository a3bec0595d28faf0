-- One glyph of a run.
--
--   step_onto        : what a glyph adds stands behind what was written before
--   Long o           == a letter's record has its length
--   step_long        : a record's bytes are added for each glyph that is worked
--   step_most        : at most one glyph is
--   stepped_worked, stepped_over, stepped_behind, stepped_faulty : the four ends that a glyph can come to
--   stepped_letter   : the same glyph, written otherwise
use mathlib.Core.Path.{◌≡◌, refl, sym, ap, subst}
use mathlib.Core.Bool.{Bool, true, false, ◌&&◌}
use mathlib.Core.List.{List, [], ◌∷◌, ◌++◌, append-nil}
use Prim.Native.Nat.{ℕ, ◌+◌, ◌-◌, ◌*◌, ◌≤◌, ◌<◌}
use native.Mathlib.Omega.{arith}
use borrow.Author.Tests.{le-leb, lt-leb}
use lib.Dec.{leb}
use lib.ListN.{length}
use Rattle.std.specs.Prelude.{Result, Ok, Err}
use Rattle.answers.specs.declared.Refusal.{Refusal}
use Rattle.answers.specs.declared.Refusal.TheVariants.{NotAllowed}
use Rattle.answers.specs.Outcome.{Outcome, given, refused, outcome}
use Rattle.record_writer.specs.Layout.{record_length}
use Rattle.letter.specs.Letter.{Letter}
use Rattle.run_steps.specs.Steps.{State, tried, step}
use Rattle.run_steps.specs.Inner.{placed, number_for, bare, Stepped}
use Rattle.run_steps.specs.declared.Standing.{Standing}
use Rattle.run_steps.proofs.Placing.{placed_none}

abbrev pub onto : State → State → State
onto s d = record { left = d.left; going = d.going; worked = d.worked; records = s.records ++ d.records; numbers = s.numbers ++ d.numbers }

tried_onto : (b : Bool) (g : Letter) (s : State) → tried b g s ≡ onto s (tried b g (bare s.left s.going s.worked))
unfolding tried
tried_onto true g s = refl
tried_onto false g s =
    λ i. record { left = s.left; going = false; worked = s.worked; records = sym (append-nil s.records) i; numbers = s.numbers ++ (16 ∷ []) }

pub step_onto : (o : Outcome Letter) (s : State) → step o s ≡ onto s (step o (bare s.left s.going s.worked))
unfolding step
step_onto (given g) s = tried_onto (s.going && leb g.tests s.left) g s
step_onto (refused n) s =
    λ i. record { left = s.left; going = s.going; worked = s.worked; records = sym (append-nil s.records) i; numbers = s.numbers ++ (n ∷ []) }

abbrev pub Long : Outcome Letter → Type 0
Long o = (g : Letter) → o ≡ given g → length g.bytes ≡ record_length

module _ (l : ℕ) (b : Bool) (w : ℕ) where
  tried_long : (t : Bool) (g : Letter) → length g.bytes ≡ record_length
      → record_length * w + length (tried t g (bare l b w)).records ≡ record_length * (tried t g (bare l b w)).worked
  unfolding tried
  tried_long true g h = omega arith
  tried_long false g h = omega arith

  pub step_long : (o : Outcome Letter) → Long o → record_length * w + length (step o (bare l b w)).records ≡ record_length * (step o (bare l b w)).worked
  unfolding step
  step_long (given g) h = tried_long (b && leb g.tests l) g (h g refl)
  step_long (refused n) h = omega arith

  tried_most : (t : Bool) (g : Letter) → (tried t g (bare l b w)).worked ≤ w + 1
  unfolding tried
  tried_most true g = omega arith
  tried_most false g = omega arith

  pub step_most : (o : Outcome Letter) → (step o (bare l b w)).worked ≤ w + 1
  unfolding step
  step_most (given g) = tried_most (b && leb g.tests l) g
  step_most (refused n) = omega arith

-- ---- the four ends

stay : (w : ℕ) (before : List ℕ) → before ≡ placed (record_length * w) [] before
stay w before = sym (placed_none (record_length * w) before)

module _ (g : Letter) (s : Standing) (before : List ℕ) where
  pub stepped_worked : (left : ℕ) (after : List ℕ) → s.going ≡ true → g.tests ≤ s.left → left ≡ s.left - g.tests
      → after ≡ placed (record_length * s.worked) g.bytes before
      → Stepped (given g) s before (record { left = left; going = s.going; worked = s.worked + 1 }) after (Ok tt)
  unfolding step tried
  stepped_worked left after go h l e =
      let enough = le-leb g.tests s.left h in
      record { left_is = rw (go, enough) l; going_is = rw (go, enough); worked_is = rw (go, enough); number_is = rw (go, enough); after_is = rw (go, enough) e }

  pub stepped_over : s.going ≡ true → s.left < g.tests
      → Stepped (given g) s before (record { left = s.left; going = false; worked = s.worked }) before (Err NotAllowed)
  unfolding step tried
  stepped_over go h =
      let short = lt-leb g.tests s.left h in
      record {
        left_is = rw (go, short);
        going_is = rw (go, short);
        worked_is = rw (go, short);
        number_is = rw (go, short);
        after_is = rw (go, short) (stay s.worked before);
      }

  pub stepped_behind : s.going ≡ false → Stepped (given g) s before s before (Err NotAllowed)
  unfolding step tried
  stepped_behind off = record { left_is = rw off; going_is = rw off; worked_is = rw off; number_is = rw off; after_is = rw off (stay s.worked before) }

pub stepped_faulty : (k : ℕ) (s : Standing) (before : List ℕ) (a : Result (Unit {0}) Refusal) → outcome a ≡ refused k
    → Stepped (refused k) s before s before a
unfolding step
stepped_faulty k s before a e =
    record { left_is = refl; going_is = refl; worked_is = refl; number_is = ap (λ (o : Outcome (Unit {0})). number_for o ∷ []) e; after_is = stay s.worked before }

-- the same glyph, written otherwise
pub stepped_letter : {o p : Outcome Letter} {s : Standing} {before : List ℕ} {r : Standing} {after : List ℕ} {a : Result (Unit {0}) Refusal}
    → p ≡ o → Stepped o s before r after a → Stepped p s before r after a
stepped_letter {s = s} {before = before} {r = r} {after = after} {a = a} e h = subst (λ (q : Outcome Letter). Stepped q s before r after a) (sym e) h
