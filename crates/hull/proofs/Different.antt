-- No corner of a hull stands twice, so a hull has no more points than the list.
--
--   Corner, corner_at      == where a chain goes on from one of its points, and where it came from
--   Onward, onward_at      == where a chain goes on from one of its points
--   apart                  : the two chains share only their ends
--   different_length       : a list without repeats whose points are all of another is no longer
--   hull_different         : Different (hullOf P)
--   hull_length            : length (hullOf P) ≤ length P
use mathlib.Core.Path.{◌≡◌, refl, sym, ◌∙◌, ap, subst}
use mathlib.Core.Logic.{◌⊎◌, inl, inr}
use mathlib.Core.List.Memᴰ
use mathlib.Core.List.{List, [], ◌∷◌, ◌++◌}
use Prim.Native.Nat.{suc, ◌≤◌, ◌<◌}
use native.Mathlib.Omega.{arith}
use lib.Dec.{T}
use lib.IntN.{pos}
use lib.ListN.{length}
use Rattle.integers.specs.Order.{◌≼◌, ◌≺◌}
use Rattle.geometry.specs.declared.Point.{Point}
use Rattle.geometry.specs.Order.{before}
use Rattle.point_lists.specs.Sets.{In, Different}
use Rattle.point_lists.specs.Rising.{insert, sorted, Rising}
use Rattle.point_lists.proofs.Order.{before_not_equal, ByOrder, ahead, behind, level, by_order}
use Rattle.point_lists.proofs.Rising.{insert_none, insert-ahead, insert_behind, sorted_rises, sorted_same, sorted-length, fewer_or_same}
use Rattle.hull.specs.Hull.{cross, LeftTurns, OnLeft}
use Rattle.hull.specs.Chains.{push, chain, but_last, inner, around, hull_of}
use Rattle.hull.proofs.Turns.{falling, balance, turned_back}
use Rattle.hull.proofs.Unique.{row_of_two}
use Rattle.hull.proofs.Pushed.{Sorted, last, last_in}
use Rattle.hull.proofs.Directions.{Rises, Falls}
use Rattle.hull.proofs.Joined.{but_last_in, but_last_less, Chains}
use Rattle.hull.proofs.HullOf.{lower, upper, chains_of, around_is, hull_of_lem}

-- ---- on from a point of a chain

record Corner (P : List Point) (Less : Point → Point → Type 0) (l : List Point) (x : Point) : Type 0 where
  p : Point
  q : Point
  q_in : In q l
  turn : pos 0 ≺ cross p x q
  to : (y : Point) → In y P → pos 0 ≼ cross p x y
  on : (y : Point) → In y P → pos 0 ≼ cross x q y
  less : Less x q

more_corners : {P : List Point} {Less : Point → Point → Type 0} {l : List Point} {x : Point} (c : Point) → Corner P Less l x → Corner P Less (c ∷ l) x
more_corners c r = record { p = r.p; q = r.q; q_in = Memᴰ.tail r.q_in; turn = r.turn; to = r.to; on = r.on; less = r.less }

corner_at : (P : List Point) (Less : Point → Point → Type 0) (o c : Point) (l : List Point) → LeftTurns (o ∷ c ∷ l)
    → ((y : Point) → In y P → OnLeft (o ∷ c ∷ l) y)
    → Sorted Less (o ∷ c ∷ l) → (x : Point) → In x (c ∷ l) → (x ≡ last c l → ⊥) → Corner P Less (c ∷ l) x
corner_at P Less o c [] t f s x i n = go (Memᴰ.cases_cons i)
  where
    go : (x ≡ c) ⊎ In x [] → Corner P Less (c ∷ []) x
    go (inl e) = absurd (n e)
    go (inr j) = absurd (Memᴰ.not-nil j)
corner_at P Less o c (r ∷ l) t f s x i n =
    go (λ j. corner_at P Less c r l t.1 (λ y k. (f y k).1) s.1 x j n) (Memᴰ.cases_cons i)
  where
    go : (In x (r ∷ l) → Corner P Less (r ∷ l) x) → (x ≡ c) ⊎ In x (r ∷ l) → Corner P Less (c ∷ r ∷ l) x
    go g (inl e) = subst (Corner P Less (c ∷ r ∷ l)) (sym e) (record {
      p = o;
      q = r;
      q_in = Memᴰ.tail (Memᴰ.head refl);
      turn = t.0;
      to = λ y k. (f y k).0;
      on = λ y k. (f y k).1.0;
      less = s.1.0 r (Memᴰ.head refl);
    })
    go g (inr j) = more_corners c (g j)

record Onward (P : List Point) (Less : Point → Point → Type 0) (l : List Point) (x : Point) : Type 0 where
  q : Point
  q_in : In q l
  on : (y : Point) → In y P → pos 0 ≼ cross x q y
  less : Less x q

onward_at : (P : List Point) (Less : Point → Point → Type 0) (c : Point) (l : List Point) → ((y : Point) → In y P → OnLeft (c ∷ l) y)
    → Sorted Less (c ∷ l)
    → (x : Point) → In x (but_last (c ∷ l)) → Onward P Less (c ∷ l) x
unfolding but_last
onward_at P Less c [] f s x i = absurd (Memᴰ.not-nil i)
onward_at P Less c (r ∷ l) f s x i = go (λ j. onward_at P Less r l (λ y k. (f y k).1) s.1 x j) (Memᴰ.cases_cons i)
  where
    go : (In x (but_last (r ∷ l)) → Onward P Less (r ∷ l) x) → (x ≡ c) ⊎ In x (but_last (r ∷ l)) → Onward P Less (c ∷ r ∷ l) x
    go g (inl e) = subst (Onward P Less (c ∷ r ∷ l)) (sym e) (record {
      q = r;
      q_in = Memᴰ.tail (Memᴰ.head refl);
      on = λ y k. (f y k).0;
      less = s.0 r (Memᴰ.head refl);
    })
    go g (inr j) = let m = g j in record { q = m.q; q_in = Memᴰ.tail m.q_in; on = m.on; less = m.less }

module _ {P : List Point} (a z b v : Point) (l u : List Point) (c : Chains P a z (b ∷ l) (v ∷ u)) where
  apart : (x : Point) → In x (a ∷ b ∷ l) → In x (but_last (v ∷ u)) → ⊥
  apart x i j = go (Memᴰ.cases_cons i)
    where
      after_a : T (before a x)
      after_a = subst (λ (e : Point). Falls x e) c.end_back (but_last_less Falls v u c.falls.1 x j)

      before_z : T (before x z)
      before_z = c.falls.0 x (but_last_in v u x j)

      meet : Corner P Rises (b ∷ l) x → Onward P Falls (v ∷ u) x → ⊥
      meet k o = turned_back k.q x o.q k.p
          (balance k.q x o.q (falling o.less k.less)
          (row_of_two x k.q o.q (k.on o.q (c.members_back o.q (Memᴰ.tail o.q_in)))
          (o.on k.q (c.members k.q (Memᴰ.tail k.q_in)))))
          k.turn (k.to o.q (c.members_back o.q (Memᴰ.tail o.q_in)))

      go : (x ≡ a) ⊎ In x (b ∷ l) → ⊥
      go (inl e) = before_not_equal a x after_a (sym e)
      go (inr k) = meet (corner_at P Rises a b l c.turns c.left c.rises x k (λ e. before_not_equal x z before_z (e ∙ c.end)))
          (onward_at P Falls v u (λ y m. (c.left_back y m).1) c.falls.1 x j)

-- ---- lists without repeats

sorted_different : (Less : Point → Point → Type 0) → ((p : Point) → Less p p → ⊥) → (l : List Point) → Sorted Less l → Different l
sorted_different Less n [] s = tt
sorted_different Less n (p ∷ l) s = (λ i. n p (s.0 p i), sorted_different Less n l s.1)

but_last_different : (u : Point) (l : List Point) → Different (u ∷ l) → Different (but_last (u ∷ l))
unfolding but_last
but_last_different u [] d = tt
but_last_different u (v ∷ l) d = (λ i. d.0 (but_last_in v l u i), but_last_different v l d.1)

joined_different : (A B : List Point) → Different A → Different B → ((x : Point) → In x A → In x B → ⊥) → Different (A ++ B)
joined_different [] B d e n = e
joined_different (p ∷ A) B d e n = (
  λ i. go (Memᴰ.append_cases A i),
  joined_different A B d.1 e (λ x i j. n x (Memᴰ.tail i) j),
)
  where
    go : In p A ⊎ In p B → ⊥
    go (inl i) = d.0 i
    go (inr j) = n p (Memᴰ.head refl) j

irreflexive : (p : Point) → T (before p p) → ⊥
irreflexive p h = before_not_equal p p h refl

chains_different : {P : List Point} (a z : Point) (l u : List Point) → T (before a z) → Chains P a z l u → Different (a ∷ (l ++ but_last u))
chains_different a z [] u h c = absurd (before_not_equal a z h c.end)
chains_different a z (b ∷ l) [] h c = absurd (before_not_equal a z h (sym c.end_back))
chains_different a z (b ∷ l) (v ∷ u) h c = joined_different (a ∷ b ∷ l) (but_last (v ∷ u)) (sorted_different Rises irreflexive (a ∷ b ∷ l) c.rises)
    (but_last_different v u (sorted_different Falls irreflexive (v ∷ u) c.falls.1)) (apart a z b v l u c)

pub around_different : (Q : List Point) → Rising Q → Different (around Q)
unfolding around inner chain push but_last
around_different [] r = tt
around_different (a ∷ []) r = (λ i. Memᴰ.not-nil i, tt)
around_different (a ∷ b ∷ Q) r = subst Different (sym (around_is a b Q r))
    (chains_different a (last b Q) (lower a b Q r).rest (upper a b Q r).rest (r.0 (last b Q) (last_in b Q)) (chains_of a b Q r))

-- ---- how long

insert_different : (p : Point) (l : List Point) → (In p l → ⊥) → length (insert p l) ≡ suc (length l)
insert_different p [] n = ap length (insert_none p)
insert_different p (q ∷ l) n = go (insert_different p l (λ i. n (Memᴰ.tail i))) (by_order p q)
  where
    go : length (insert p l) ≡ suc (length l) → ByOrder p q → length (insert p (q ∷ l)) ≡ suc (suc (length l))
    go f (ahead e) = ap length (insert-ahead p q l e)
    go f (behind e g) = ap length (insert_behind p q l e g) ∙ ap suc f
    go f (level e g s) = absurd (n (Memᴰ.head s))

sorted_long : (l : List Point) → Different l → length (sorted l) ≡ length l
unfolding sorted
sorted_long [] d = refl
sorted_long (p ∷ l) d = insert_different p (sorted l) (λ i. d.0 ((sorted_same l).from p i)) ∙ ap suc (sorted_long l d.1)

pub different_length : (H P : List Point) → Different H → ((p : Point) → In p H → In p P) → length H ≤ length P
different_length H P d f = go
    (fewer_or_same (sorted H) (sorted P) (sorted_rises H) (sorted_rises P) (λ p i. (sorted_same P).to p (f p ((sorted_same H).from p i))))
  where
    go : (sorted H ≡ sorted P) ⊎ (length (sorted H) < length (sorted P)) → length H ≤ length P
    go (inl e) = let same : length (sorted H)
        ≡ length (sorted P) = ap length e in omega (arith, same, sorted_long H d, sorted-length P)
    go (inr h) = omega (arith, h, sorted_long H d, sorted-length P)

pub hull_different : (P : List Point) → Different (hull_of P)
unfolding hull_of
hull_different P = around_different (sorted P) (sorted_rises P)

pub hull_length : (P : List Point) → length (hull_of P) ≤ length P
hull_length P = different_length (hull_of P) P (hull_different P) (hull_of_lem P).members
