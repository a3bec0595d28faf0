-- The points of the columns, written one column after another: laws of `Written`.
--
--   written_none   : of no column none is written
--   skipped        : a column without points; what was put in the next places does not count
--   one_more       : a column with points: the two that were put in the next places
--   gap            : columns without points, passed by
--   moved          : the same of equal lists and numbers
use mathlib.Core.Path.{◌≡◌, sym, ap, ◌∙◌}
use mathlib.Core.Bool.{true, false}
use mathlib.Core.List.{List, [], ◌∷◌, ◌++◌, append-nil, reverse, reverse-append}
use Prim.Native.Nat.{ℕ, ◌+◌, ◌-◌, ◌≤◌, ◌<◌}
use native.Mathlib.Omega.{arith}
use lib.IntN.{ℤ, pos}
use lib.ListN.{length, get_or, length-append}
use lib.Signed.{lt_z}
use Rattle.integers.specs.Order.{◌≺◌}
use Rattle.geometry.specs.declared.Point.{Point}
use Rattle.point_lists.specs.Put.{put_at}
use Rattle.point_lists.proofs.Put.{length-put}
use Rattle.hull_chains.specs.Spans.{span}
use Rattle.hull_chains.proofs.Spanning.{span_end, span_same, put_other, put-span, put_behind_lem}
use Rattle.columns.specs.Columns.{at, side, Written, column_count, side_length}
use Rattle.columns.proofs.ColumnLaws.{column_empty, column_one, side_none, side_next, side_skip}

pub written_none : (low high lows highs : List ℤ) → length lows ≡ side_length → length highs ≡ side_length → Written 0 0 low high lows highs
written_none low high lows highs f g = record {
  lows_size = f;
  highs_size = g;
  count = sym (ap length (side_none low high low));
  lowest = span_end 0 0 lows (omega arith) (omega arith) ∙ sym (side_none low high low);
  highest = span_end column_count column_count highs (omega arith) (omega (arith, g)) ∙ sym (ap reverse (side_none low high high));
}

pub moved : {k m n : ℕ} {low high a b c d : List ℤ} → c ≡ a → d ≡ b → n ≡ m → Written k m low high a b → Written k n low high c d
moved e f g w = rw (e, f, g) w

pub gap : {x y m : ℕ} {low high lows highs : List ℤ} → x ≤ y → ((j : ℕ) → x ≤ j → j < y → get_or high j (pos 0) ≺ get_or low j (pos 0))
    → Written x m low high lows highs → Written y m low high lows highs
gap {x} {y} {m} {low} {high} h f w = record {
  lows_size = w.lows_size;
  highs_size = w.highs_size;
  count = w.count ∙ sym (ap length (same low));
  lowest = w.lowest ∙ sym (same low);
  highest = w.highest ∙ sym (ap reverse (same high));
}
  where
    same : (ys : List ℤ) → side y low high ys ≡ side x low high ys
    same ys = side_skip (y - x) x y low high ys (omega arith) f

module _ {x m : ℕ} {low high lows highs : List ℤ} (few : m ≤ x) (inside : x < column_count) (w : Written x m low high lows highs) where
  abbrev lo : ℤ
  lo = get_or low x (pos 0)

  abbrev hi : ℤ
  hi = get_or high x (pos 0)

  abbrev lows' : List ℤ
  lows' = put_at lows m (at x lo)

  abbrev highs' : List ℤ
  highs' = put_at highs ((column_count - 1) - m) (at x hi)

  lows_size' : length lows' ≡ side_length
  lows_size' = length-put lows m (at x lo) ∙ w.lows_size

  highs_size' : length highs' ≡ side_length
  highs_size' = length-put highs ((column_count - 1) - m) (at x hi) ∙ w.highs_size

  pub skipped : lt_z hi lo ≡ true → Written (x + 1) m low high lows' highs'
  skipped e = record {
    lows_size = lows_size';
    highs_size = highs_size';
    count = w.count ∙ sym (ap length (same low));
    lowest = span_same m 0 m lows' lows (omega arith) (omega (arith, lows_size')) (omega (arith, w.lows_size))
        (λ j u v. put_other lows m (at x lo) j (λ e. absurd (omega (arith, e, v))))
        ∙ w.lowest ∙ sym (same low);
    highest = span_same m (column_count - m) column_count highs' highs (omega arith) (omega (arith, highs_size')) (omega (arith, w.highs_size))
        (λ j u v. put_other highs ((column_count - 1) - m) (at x hi) j (λ e. absurd (omega (arith, e, u))))
        ∙ w.highest ∙ sym (ap reverse (same high));
  }
    where
      same : (ys : List ℤ) → side (x + 1) low high ys ≡ side x low high ys
      same ys = side_next x low high ys ∙ ap {B = List Point} (λ Q. side x low high ys ++ Q) (column_empty (pos x) lo hi (get_or ys x (pos 0)) e)
          ∙ append-nil (side x low high ys)

  pub one_more : lt_z hi lo ≡ false → Written (x + 1) (m + 1) low high lows' highs'
  one_more e = record {
    lows_size = lows_size';
    highs_size = highs_size';
    count = omega (arith, w.count, ap length (next low), length-append (side x low high low) (at x lo ∷ []));
    lowest = put_behind_lem lows m (at x lo) 0 (omega arith) (omega (arith, w.lows_size)) ∙ ap {B = List Point} (λ Q. Q ++ (at x lo ∷ [])) w.lowest
        ∙ sym (next low);
    highest = ap (λ (k : ℕ). span k column_count highs') here
        ∙ put-span highs ((column_count - 1) - m) (at x hi) column_count (omega arith) (omega (arith, w.highs_size))
        ∙ ap {B = List Point} (λ k. at x hi ∷ span k column_count highs) behind
        ∙ ap {B = List Point} (λ Q. at x hi ∷ Q) w.highest
        ∙ sym (ap reverse (next high) ∙ reverse-append (side x low high high) (at x hi ∷ []));
  }
    where
      here : column_count - (m + 1) ≡ (column_count - 1) - m
      here = omega arith

      behind : (column_count - 1) - m + 1 ≡ column_count - m
      behind = omega arith

      next : (ys : List ℤ) → side (x + 1) low high ys ≡ side x low high ys ++ (at x (get_or ys x (pos 0)) ∷ [])
      next ys = side_next x low high ys ∙ ap {B = List Point} (λ Q. side x low high ys ++ Q) (column_one (pos x) lo hi (get_or ys x (pos 0)) e)
