-- Document 02, item 2: points from a drawing program's own values, over the definitions that the contracts of the public calls cite. The refusals
-- and that a refused call changes nothing are claimed with the other calls' (claims/specs/Demand1.antt). Shown in proofs/DrawnPoints.antt.
--
--   Broken v          == v is a NaN, an infinity, or a float with a fraction
--   SameNumber v w    == the finite floats v and w have one value, whole or not
--   EqualValue p q    == the points p and q have equal values, x and y, each in whole numbers or in floats
--   Led               == what a point leads to: the answers of demand 3 (disk, support set, whole radius, preview's bits, record) and the test count
--   led p l n b       == the calls one after another: p put behind n points of the list l; engine, given those n + 1 points alone; whole radius,
--                        preview and writer, lent the buffer b, given what the engine returned
--   DrawnPoints       == all that item 2 says
--
-- `Names p c` (rules/specs/Rules.antt): p's whole numbers are c's, or its floats stand for them exactly.
use Rattle.std.specs.Prelude.{◌≡◌, ◌↔◌, Bool, List, [], ◌∷◌, ◌++◌, ℕ, suc, ◌*◌, ◌%◌, ◌≤◌, ℤ, pos, ◌*ℤ◌, length, take, drop, Float}
use Rattle.std.specs.Float.{nan, inf, fin}
use Rattle.std.specs.Float.Ieee.{up, down}
use Rattle.answers.specs.Outcome.{Outcome, given, refused, and_then}
use Rattle.integers.specs.Order.{signed}
use Rattle.geometry.specs.declared.Point.{Point}
use Rattle.geometry.specs.Points.{first_points}
use Rattle.engine.specs.Engine.{enclose_of}
use Rattle.whole_floats.specs.Whole.{StandsFor, whole_of}
use Rattle.drawn_points.specs.declared.DrawnPoint.{DrawnPoint}
use Rattle.drawn_points.specs.declared.DrawnPoint.TheVariants.{Whole, Drawn}
use Rattle.drawn_points.specs.Appending.{append_of, list_after}
use Rattle.record_writer.specs.Layout.{record_length}
use Rattle.rules.specs.Row.{AllKept}
use Rattle.rules.specs.Rules.{Names, append_row}
use Rattle.claims.specs.Demand3.{Answers, answers_for}

pub data Broken : Float → Type 0 where
  not_a_number : Broken nan
  infinite : {s : Bool} → Broken (inf s)
  -- m·2^e is no whole number
  fraction : {s : Bool} {m : ℕ} {e : ℤ} → (m * up e % down e ≡ 0 → ⊥) → Broken (fin s m e)

abbrev pub SameNumber : Float → Float → Type 0
SameNumber nan w = ⊥
SameNumber (inf s) w = ⊥
SameNumber (fin s m e) nan = ⊥
SameNumber (fin s m e) (inf t) = ⊥
SameNumber (fin s m e) (fin t n d) = signed s (m * up e) *ℤ pos (down d) ≡ signed t (n * up d) *ℤ pos (down e)

abbrev pub EqualValue : DrawnPoint → DrawnPoint → Type 0
EqualValue (Whole x y) (Whole u v) = (x ≡ u) × (y ≡ v)
EqualValue (Whole x y) (Drawn u v) = StandsFor u x × StandsFor v y
EqualValue (Drawn x y) (Whole u v) = StandsFor x u × StandsFor y v
EqualValue (Drawn x y) (Drawn u v) = SameNumber x u × SameNumber y v

pub record Led : Type 0 where
  pub answers : Answers
  pub tests : ℕ

unfoldable pub led : DrawnPoint → List ℤ → ℕ → List ℕ → Outcome Led
led p l n b =
    and_then (append_of p l n) (λ k.
    and_then (enclose_of (take (2 * k) (list_after p l n))) (λ e.
    and_then (answers_for e b) (λ a.
    given (record { answers = a; tests = e.tests }))))

pub record DrawnPoints : Type 0 where
  -- "A float is taken only when it stands for a whole number exactly"
  pub whole : (v : Float) (z : ℤ) → (whole_of v ≡ given z) ↔ StandsFor v z
  -- "11 for a NaN, an infinity or a float with a fraction"
  pub broken : (v : Float) (k : ℕ) → (whole_of v ≡ refused k) ↔ ((k ≡ 11) × Broken v)
  -- "minus zero is 0"
  pub zeros : (s : Bool) → whole_of (fin s 0 (pos 0)) ≡ given (pos 0)
  -- "returns the new number"
  pub number : (p : DrawnPoint) (l : List ℤ) (n k : ℕ) → (append_of p l n ≡ given k) ↔ (AllKept (append_row p l n) × (k ≡ suc n))
  -- "it puts the corner behind them, leaves the rest"
  pub list :
      (p : DrawnPoint) (l : List ℤ) (n : ℕ) → AllKept (append_row p l n) → (c : Point) → Names p c
      → (list_after p l n ≡ take (2 * n) l ++ c.x ∷ c.y ∷ drop (2 * suc n) l) × (first_points (suc n) (list_after p l n) ≡ first_points n l ++ (c ∷ []))
  -- "Whole and float corners of equal value, put behind the same corners, lead to the same disk, rim, record and count": whatever the lists hold
  -- behind the n corners, and whichever buffers are lent; what any of the calls refuses is refused alike, a list or a buffer that is too short
  -- in both cases too
  pub same :
      (p q : DrawnPoint) → EqualValue p q
      → (n : ℕ) (l m : List ℤ) → take (2 * n) l ≡ take (2 * n) m → (8192 ≤ length l) ↔ (8192 ≤ length m)
      → (b d : List ℕ) → (record_length ≤ length b) ↔ (record_length ≤ length d)
      → led p l n b ≡ led q m n d
