-- Lists of numbers whose points are put in another order.
--
--   permuted_refl, permuted_trans : such lists
--   front_run       : the first k points put in another order
--   to_front_lem        : point i moved to the front
--   permuted_boxed  : the points stay in the em box
--   first_in        : the first k points are points of the list
--   by_place        : a place is below n, or from n on
--   each_first      : what holds of point i, for each i below k, holds of the first k points
use mathlib.Core.Path.{◌≡◌, refl, sym, ◌∙◌, ap, subst}
use mathlib.Core.Logic.{◌⊎◌, inl, inr}
use mathlib.Core.Bool.{Bool, true, false}
use mathlib.Core.List.Permᴰ
use mathlib.Core.List.{List, [], ◌∷◌, ◌++◌, Permᴰ}
use mathlib.Core.List.Memᴰ
use Prim.Native.Nat.{ℕ, zero, suc, ◌+◌, ◌*◌, ◌≤◌, ◌<◌}
use native.Mathlib.Numerals.{add-one}
use native.Mathlib.Omega.{arith}
use borrow.Author.Tests.{ltb-true, ltb-false}
use lib.Dec.{ltb}
use lib.IntN.{ℤ}
use lib.ListN.{length, drop, length-append}
use Rattle.geometry.specs.declared.Point.{Point}
use Rattle.geometry.specs.Points.{points, flat, point_at, first_points, to_front}
use Rattle.geometry.proofs.PointLists.{length-flat, flat-first_points, length-first_points, first_points_next, to_front_past, keep_past}
use Rattle.point_lists.specs.Sets.{In}
use Rattle.point_lists.proofs.Sets.{none_of, also}
use Rattle.disks.proofs.Lists.{perm_in, perm_length, last_first}
use Rattle.fixed_points.specs.Boundary.{Boxed}
use Rattle.fitting.specs.Decides.{Permuted}

pub by_place : {Z : Type 0} (i n : ℕ) → (i < n → Z) → (n ≤ i → Z) → Z
by_place {Z} i n below from = go (ltb i n) refl
  where
    go : (b : Bool) → ltb i n ≡ b → Z
    go true h = below (ltb-true i n h)
    go false h = from (ltb-false i n h)

points-flat : (ps : List Point) (l : List ℤ) → points (flat ps ++ l) ≡ ps ++ points l
unfolding points flat
points-flat [] l = refl
points-flat (p ∷ ps) l = ap (λ (Q : List Point). p ∷ Q) (points-flat ps l)

pub permuted_refl : (l : List ℤ) → Permuted l l
permuted_refl l = record { same_length = refl; permuted = Permᴰ.refl (points l) }

pub permuted_trans : {l m k : List ℤ} → Permuted l m → Permuted m k → Permuted l k
permuted_trans a b = record { same_length = b.same_length ∙ a.same_length; permuted = Permᴰ.trans b.permuted a.permuted }

-- numbers of points ps, put for those of qs
put_for : (ps qs : List Point) (l : List ℤ) → Permᴰ ps qs → Permuted (flat qs ++ l) (flat ps ++ l)
put_for ps qs l d = record {
  same_length = simp (length-append, length-flat) (omega (arith, perm_length d));
  permuted = rw (points-flat ps l, points-flat qs l) (Permᴰ.append_right (points l) d);
}

pub front_run : (k : ℕ) (l m : List ℤ) (ps : List Point) → 2 * k ≤ length l → Permᴰ ps (first_points k l)
    → m ≡ flat ps ++ drop (2 * k) l → Permuted l m
front_run k l m ps fits d is =
    subst (λ (x : List ℤ). Permuted x m) (flat-first_points k l fits) (subst (Permuted (flat (first_points k l) ++ drop (2 * k) l)) (sym is)
    (put_for ps (first_points k l) (drop (2 * k) l) d))

pub to_front_lem : (l : List ℤ) (i : ℕ) → 2 * i + 2 ≤ length l → Permuted l (to_front l i)
to_front_lem l i fits =
    let ps = first_points i l in
    let size = length-first_points i l (omega arith) in
    let whole : flat ps ++ drop (2 * i) l ≡ l = flat-first_points i l (omega arith) in
    let rest = drop (2 * (i + 1)) l in
    subst (λ (x : List ℤ). Permuted x (to_front l i)) (sym (keep_past ps l i size fits) ∙ whole)
    (subst (Permuted (flat (ps ++ (point_at l i ∷ [])) ++ rest)) (sym (to_front_past ps l i size) ∙ ap (λ (x : List ℤ). to_front x i) whole)
    (put_for (point_at l i ∷ ps) (ps ++ (point_at l i ∷ [])) rest (Permᴰ.symm (last_first ps (point_at l i)))))

pub permuted_boxed : {l m : List ℤ} → Permuted l m → Boxed (points l) → Boxed (points m)
permuted_boxed a b = record { in_box = λ p i. b.in_box p (perm_in a.permuted i) }

pub first_in : (k : ℕ) (l : List ℤ) → 2 * k ≤ length l → (p : Point) → In p (first_points k l) → In p (points l)
first_in k l fits p i =
    subst (In p) (sym (points-flat (first_points k l) (drop (2 * k) l)) ∙ ap points (flat-first_points k l fits)) (Memᴰ.append_left (points (drop (2 * k) l)) i)

pub each_first : (Z : Point → Type 0) (k : ℕ) (l : List ℤ) → 2 * k ≤ length l → ((i : ℕ) → i < k → Z (point_at l i))
    → (p : Point) → In p (first_points k l) → Z p
unfolding points
each_first Z zero l fits h p m = none_of Z p m
each_first Z (suc k) l fits h p m =
    go (each_first Z k l (omega arith) (λ j s. h j (omega arith)) p)
    (Memᴰ.append_cases (first_points k l) (subst (In p) (ap (λ (n : ℕ). first_points n l) (sym (add-one k)) ∙ first_points_next k l (omega arith)) m))
  where
    go : (In p (first_points k l) → Z p) → In p (first_points k l) ⊎ In p (point_at l k ∷ []) → Z p
    go before (inl i) = before i
    go before (inr i) = also Z (h k (omega arith)) (none_of Z) p i
