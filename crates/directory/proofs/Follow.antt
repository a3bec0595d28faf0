-- What the rule of the pairs says of the parts.
--
--   follow-start, follow_end, follow_rest   : the rule of a list of places, taken apart
--   follow-pair                : each of the pairs that follow starts at or after the first one's bound, and ends within the sheet
--   Apart s i j                == part i ends no later than part j starts
--   pairs-sorted               : where the rule holds, each part ends before a later one starts; so the pairs are sorted by offset
use mathlib.Core.Path.{◌≡◌, sym, ◌∙◌, subst, subst₂}
use mathlib.Core.Bool.{true, ◌&&◌}
use mathlib.Core.List.{List, ◌∷◌}
use Prim.Native.Nat.{ℕ, zero, suc, ◌+◌, ◌-◌, ◌≤◌, ◌<◌}
use native.Mathlib.Nat.{add-zero, add-suc, suc-add, le_trans, le-add_right}
use native.Mathlib.Omega.{arith}
use borrow.Author.Tests.{leb-true}
use lib.Dec.{leb}
use lib.ListN.{length}
use Rattle.integers.proofs.Tests.{first, rest}
use Rattle.directory.specs.declared.Place.{Place}
use Rattle.directory.specs.Directory.{count, directory_end, pair, pairs, follow}

-- ---- the rule of the pairs

module _ (end l : ℕ) (p : Place) (ps : List Place) (h : follow end l (p ∷ ps) ≡ true) where
  pub follow-start : end ≤ p.start
  unfolding follow
  follow-start = leb-true end p.start (first (leb end p.start) (leb (p.start + p.len) l && follow (p.start + p.len) l ps) h)

  behind_start : leb (p.start + p.len) l && follow (p.start + p.len) l ps ≡ true
  unfolding follow
  behind_start = rest (leb end p.start) (leb (p.start + p.len) l && follow (p.start + p.len) l ps) h

  pub follow_end : p.start + p.len ≤ l
  follow_end = leb-true (p.start + p.len) l (first (leb (p.start + p.len) l) (follow (p.start + p.len) l ps) behind_start)

  pub follow_rest : follow (p.start + p.len) l ps ≡ true
  follow_rest = rest (leb (p.start + p.len) l) (follow (p.start + p.len) l ps) behind_start

-- pair i + j, of n pairs from pair i on
pub follow-pair : (s : List ℕ) (l end i n j : ℕ) → follow end l (pairs s i n) ≡ true → j < n
    → (end ≤ (pair s (i + j)).start) × ((pair s (i + j)).start + (pair s (i + j)).len ≤ l)
unfolding pairs
follow-pair s l end i zero j h k = absurd (none j k)
  where
    none : (j : ℕ) → j < 0 → ⊥
    none j k = omega arith
follow-pair s l end i (suc n) zero h k =
    subst (λ (m : ℕ). (end ≤ (pair s m).start) × ((pair s m).start + (pair s m).len ≤ l)) (sym (add-zero i))
    (follow-start end l (pair s i) (pairs s (suc i) n) h, follow_end end l (pair s i) (pairs s (suc i) n) h)
follow-pair s l end i (suc n) (suc j) h k =
    let p = pair s i in
    let ps = pairs s (suc i) n in
    let e : suc i + j ≡ i + suc j = suc-add i j ∙ sym (add-suc i j) in
    let t = follow-pair s l (p.start + p.len) (suc i) n j (follow_rest end l p ps h) (omega arith) in
    let u = subst (λ (m : ℕ). (p.start + p.len ≤ (pair s m).start) × ((pair s m).start + (pair s m).len ≤ l)) e t in
    (le_trans (follow-start end l p ps h) (le_trans (le-add_right p.start p.len) u.0), u.1)

-- ---- sorted by offset

-- part i ends no later than part j starts
abbrev pub Apart : List ℕ → ℕ → ℕ → Type 0
Apart s i j = (pair s i).start + (pair s i).len ≤ (pair s j).start

-- of the n pairs from pair i on
pairs-apart : (s : List ℕ) (l end i n j d : ℕ) → follow end l (pairs s i n) ≡ true → j + suc d < n → Apart s (i + j) (i + (j + suc d))
unfolding pairs
pairs-apart s l end i zero j d h k = absurd (none (j + suc d) k)
  where
    none : (j : ℕ) → j < 0 → ⊥
    none j k = omega arith
pairs-apart s l end i (suc n) zero d h k =
    let p = pair s i in
    let a : i ≡ i + 0 = omega arith in
    let b : suc i + d ≡ i + (0 + suc d) = omega arith in
    subst₂ (Apart s) a b (follow-pair s l (p.start + p.len) (suc i) n d (follow_rest end l p (pairs s (suc i) n) h) (omega arith)).0
pairs-apart s l end i (suc n) (suc j) d h k =
    let p = pair s i in
    let a : suc i + j ≡ i + suc j = omega arith in
    let b : suc i + (j + suc d) ≡ i + (suc j + suc d) = omega arith in
    subst₂ (Apart s) a b (pairs-apart s l (p.start + p.len) (suc i) n j d (follow_rest end l p (pairs s (suc i) n) h) (omega arith))

-- so the pairs are sorted by offset
pub pairs-sorted : (s : List ℕ) → follow (directory_end s) (length s) (pairs s 0 (count s)) ≡ true → (i j : ℕ) → i < j → j < count s → Apart s i j
pairs-sorted s h i j a b =
    let e : 0 + i ≡ i = omega arith in
    let f : 0 + (i + suc (j - suc i)) ≡ j = omega arith in
    subst₂ (Apart s) e f (pairs-apart s (length s) (directory_end s) 0 (count s) i (j - suc i) h (omega arith))
