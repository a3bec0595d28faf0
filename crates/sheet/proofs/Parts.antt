-- What `glyph_of` says of the parts, and the parts one at a time.
--
--   by_count                   : a glyph is the count, then the check of k
--   glyph_given                : where k is below the count, it is pair k
--   Given s k p                == the sheet keeps every rule, k is below the count, and p is pair k
--   given_pair                 : where glyph k is given as p, this is so
--   given_within               : a part that is given lies within the sheet, behind the directory
--   given_part                 : `part` hands over exactly its bytes, and as many as its length says
--   parts_next, parts_done     : the parts from i to n are part i and those from i + 1 on; from n on there is none
use mathlib.Core.Path.{◌≡◌, sym, ap, ◌∙◌, subst}
use mathlib.Core.Bool.{Bool, true}
use mathlib.Core.List.{List, [], ◌∷◌, map}
use Prim.Native.Nat.{ℕ, ◌+◌, ◌-◌, ◌≤◌, ◌<◌}
use native.Mathlib.Nat.{zero-add}
use native.Mathlib.Omega.{arith}
use borrow.Author.Tests.{le-leb, lt-leb, leb-false}
use lib.Dec.{leb}
use lib.ListN.{length, take, drop, length-drop}
use lib.Seq.{length-take-le}
use Rattle.answers.specs.Outcome.{Outcome, given, refuse_if, and_then}
use Rattle.answers.proofs.OutcomeLaws.{not_refused, both_given, given_same}
use Rattle.directory.specs.declared.Place.{Place}
use Rattle.directory.specs.Directory.{count, directory_end, pair, pairs, follow, count_of}
use Rattle.directory.proofs.Directory.{pairs-step, pairs_done}
use Rattle.directory.proofs.Rows.{count_known}
use Rattle.directory.proofs.Follow.{follow-pair}
use Rattle.sheet.specs.Sheet.{glyph_of, pick_list, part_of, part_at, parts}

module _ (s : List ℕ) (k : ℕ) where
  abbrev below-count : ℕ → Outcome Place
  below-count n = refuse_if (leb n k) 10 (given (pair s k))

  pub by_count : {o : Outcome ℕ} → count_of s ≡ o → glyph_of s k ≡ and_then o below-count
  unfolding glyph_of
  by_count e = ap (λ (o : Outcome ℕ). and_then o below-count) e

  pub glyph_given : (n : ℕ) → count_of s ≡ given n → k < n → glyph_of s k ≡ given (pair s k)
  glyph_given n e h = by_count e ∙ rw (lt-leb n k h)

pub record Given (s : List ℕ) (k : ℕ) (p : Place) : Type 0 where
  pub short : length s ≤ 65535
  pub whole : directory_end s ≤ length s
  pub rule : follow (directory_end s) (length s) (pairs s 0 (count s)) ≡ true
  pub below : k < count s
  pub place : p ≡ pair s k

pub given_pair : (s : List ℕ) (k : ℕ) (p : Place) → glyph_of s k ≡ given p → Given s k p
unfolding glyph_of
given_pair s k p h =
    let counts = both_given (count_of s) (below-count s k) p h in
    let known = count_known s counts.0 counts.1.0 in
    let place = not_refused (leb counts.0 k) 10 counts.1.1 in
    record {
      short = known.short;
      whole = known.whole;
      rule = known.rule;
      below = subst (λ (n : ℕ). k < n) known.all (leb-false counts.0 k place.0);
      place = sym (given_same place.1);
    }

-- the part lies behind the directory and within the sheet
pub given_within : (s : List ℕ) (k : ℕ) (p : Place) → glyph_of s k ≡ given p → (directory_end s ≤ p.start) × (p.start + p.len ≤ length s)
given_within s k p h =
    let g = given_pair s k p h in
    let e : pair s (0 + k) ≡ p = ap (pair s) (zero-add k) ∙ sym g.place in
    subst (λ (q : Place). (directory_end s ≤ q.start) × (q.start + q.len ≤ length s)) e
    (follow-pair s (length s) (directory_end s) 0 (count s) k g.rule g.below)

pub given_part : (s : List ℕ) (k : ℕ) (p : Place) → glyph_of s k ≡ given p
    → (part_of s p.start p.len ≡ take p.len (drop p.start s)) × (length (part_of s p.start p.len) ≡ p.len)
given_part s k p h =
    let w = (given_within s k p h).1 in
    let e : part_of s p.start p.len ≡ take p.len (drop p.start s) =
    ap (λ (b : Bool). pick_list b (take p.len (drop p.start s))) (le-leb (p.start + p.len) (length s) w) in
    let room : p.len ≤ length (drop p.start s) = omega (arith, length-drop p.start s) in
    (e, ap length e ∙ length-take-le p.len (drop p.start s) room)

module _ (s : List ℕ) (i n : ℕ) where
  -- what lies at a place
  abbrev at_place : Place → List ℕ
  at_place p = part_of s p.start p.len

  pub parts_next : i < n → parts s i (n - i) ≡ part_at s i ∷ parts s (i + 1) (n - (i + 1))
  unfolding parts
  parts_next h = ap (map at_place) (pairs-step s i n h)

  pub parts_done : n ≤ i → parts s i (n - i) ≡ []
  unfolding parts
  parts_done h = ap (map at_place) (pairs_done s i n h)
