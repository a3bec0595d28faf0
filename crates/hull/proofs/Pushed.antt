-- A chain over a list whose points come one after the other in some direction.
--
--   Direction          == an order of points, rising or falling, with what left turns along it say of one another
--   Sorted l           == each point of l comes ahead of all later ones
--   last p l           == the last point of p ∷ l
--   Chain p l Q        == p ∷ l is a chain for p ∷ Q: it has the same ends, turns strictly left, and every point of p ∷ Q is on its left
--   pushed             : a point put in front of a chain gives a chain
--   chained            : `chain` of a sorted list is a chain for it
use mathlib.Core.Path.{◌≡◌, refl, sym, ◌∙◌, ap, subst}
use mathlib.Core.Logic.{◌⊎◌, inl, inr}
use mathlib.Core.Bool.{Bool, true, false}
use mathlib.Core.List.Memᴰ
use mathlib.Core.List.{List, [], ◌∷◌}
use lib.IntN.{ℤ, pos}
use lib.Signed.{lt_z}
use Rattle.integers.specs.Order.{◌≼◌, ◌≺◌}
use Rattle.integers.proofs.Bounds.{lt_true, lt_false}
use Rattle.integers.proofs.Order.{≤_of_<, ≤_of_eq}
use Rattle.geometry.specs.declared.Point.{Point}
use Rattle.point_lists.specs.Sets.{In}
use Rattle.point_lists.proofs.Sets.{also}
use Rattle.hull.specs.Hull.{cross, LeftTurns, OnLeft}
use Rattle.hull.specs.Chains.{push, chain}
use Rattle.hull.proofs.Turns.{turn_on, turn_same}

pub data Compared (Less : Point → Point → Type 0) (p q : Point) : Type 0 where
  less : Less p q → Compared Less p q
  same : p ≡ q → Compared Less p q
  more : Less q p → Compared Less p q

pub record Direction (Less : Point → Point → Type 0) : Type 0 where
  pub irrefl : (p : Point) → Less p p → ⊥
  pub trans : (p q r : Point) → Less p q → Less q r → Less p r
  pub compare : (p q : Point) → Compared Less p q
  -- p, c, d, e one after the other, left turns at c and d: then e is on the left of the way from p to d
  pub later : (p c d e : Point) → Less p c → Less c d → Less d e → pos 0 ≼ cross p c d → pos 0 ≼ cross c d e → pos 0 ≼ cross p d e
  -- a left turn from p over b to c, and q beyond b and on the left of the way from b to c
  pub ahead : (p b c q : Point) → Less p b → Less b c → Less b q → pos 0 ≼ cross p b c → pos 0 ≼ cross b c q → pos 0 ≼ cross p b q
  -- no left turn from p over b to c, and q before c and on the left of the way from b to c
  pub behind : (p b c q : Point) → Less p c → Less b c → Less q c → cross p b c ≼ pos 0 → pos 0 ≼ cross b c q → pos 0 ≼ cross p c q
  -- q between a and t, on the way from a to t or on the left of it: where a and t are on the left of the way from b to c, so is q
  pub over : (a q t b c : Point) → Less a q → Less q t → Less b c → cross a q t ≼ pos 0 → pos 0 ≼ cross b c a → pos 0 ≼ cross b c t
      → pos 0 ≼ cross b c q

abbrev pub Sorted : (Point → Point → Type 0) → List Point → Type 0
Sorted Less [] = Unit {0}
Sorted Less (p ∷ l) = ((q : Point) → In q l → Less p q) × Sorted Less l

abbrev pub last : Point → List Point → Point
last p [] = p
last p (q ∷ l) = last q l

pub record Chain (Less : Point → Point → Type 0) (p : Point) (l Q : List Point) : Type 0 where
  pub members : (q : Point) → In q l → In q Q
  pub sorted : Sorted Less (p ∷ l)
  pub turns : LeftTurns (p ∷ l)
  pub left : (q : Point) → In q (p ∷ Q) → OnLeft (p ∷ l) q
  pub end : last p l ≡ last p Q

-- ---- `push`, by the outcome of its test

pub push_none : (p : Point) → push p [] ≡ p ∷ []
unfolding push
push_none p = refl

pub push-one : (p b : Point) → push p (b ∷ []) ≡ p ∷ b ∷ []
unfolding push
push-one p b = refl

pub push_keep : (p b c : Point) (l : List Point) → lt_z (pos 0) (cross p b c) ≡ true → push p (b ∷ c ∷ l) ≡ p ∷ b ∷ c ∷ l
unfolding push
push_keep p b c l e = rw e

pub push-drop : (p b c : Point) (l : List Point) → lt_z (pos 0) (cross p b c) ≡ false → push p (b ∷ c ∷ l) ≡ push p (c ∷ l)
unfolding push
push-drop p b c l e = rw e

-- ---- the end of a sorted list

pub last_in : (p : Point) (l : List Point) → In (last p l) (p ∷ l)
last_in p [] = Memᴰ.head refl
last_in p (q ∷ l) = Memᴰ.tail (last_in q l)

module _ (Less : Point → Point → Type 0) where
  pub up_to_last : (p : Point) (l : List Point) → Sorted Less (p ∷ l) → (q : Point) → In q (p ∷ l) → (q ≡ last p l) ⊎ (Less q (last p l))
  up_to_last p [] s q i = go (Memᴰ.cases_cons i)
    where
      go : (q ≡ p) ⊎ In q [] → (q ≡ p) ⊎ (Less q p)
      go (inl e) = inl e
      go (inr j) = absurd (Memᴰ.not-nil j)
  up_to_last p (r ∷ l) s q i = go (λ j. up_to_last r l s.1 q j) (Memᴰ.cases_cons i)
    where
      go : (In q (r ∷ l) → (q ≡ last r l) ⊎ (Less q (last r l))) → (q ≡ p) ⊎ In q (r ∷ l) → (q ≡ last r l) ⊎ (Less q (last r l))
      go f (inl e) = inr (subst (λ (x : Point). Less x (last r l)) (sym e) (s.0 (last r l) (last_in r l)))
      go f (inr j) = f j

-- ---- pushing

at-start : (p c : Point) → pos 0 ≼ cross p c p
at-start p c = ≤_of_eq (sym (turn_on p c p ∙ turn_on c p p ∙ turn_same p c))

at_end : (p c q : Point) → q ≡ c → pos 0 ≼ cross p c q
at_end p c q e = ≤_of_eq (sym (ap (λ (x : Point). cross p c x) e ∙ turn_on p c c ∙ turn_same c p))

module _ {Less : Point → Point → Type 0} (d : Direction Less) where
  -- the sides of a chain that p turns left into have p on their left
  from_behind : (p c e : Point) (l : List Point) → Less p c → Sorted Less (c ∷ e ∷ l) → pos 0 ≼ cross p c e → LeftTurns (c ∷ e ∷ l)
      → OnLeft (c ∷ e ∷ l) p
  from_behind p c e [] pc s h t = (subst (λ (z : ℤ). pos 0 ≼ z) (turn_on p c e) h, tt)
  from_behind p c e (f ∷ l) pc s h t = (
    subst (λ (z : ℤ). pos 0 ≼ z) (turn_on p c e) h,
    from_behind p e f l (d.trans p c e pc ce) s.1 (d.later p c e f pc ce (s.1.0 f (Memᴰ.head refl)) h (≤_of_< t.0)) t.1,
  )
    where
      ce : Less c e
      ce = s.0 e (Memᴰ.head refl)

  record Pushed (p : Point) (Q : List Point) (z : Point) (m : List Point) : Type 0 where
    rest : List Point
    is : m ≡ p ∷ rest
    members : (q : Point) → In q rest → In q Q
    sorted : Sorted Less (p ∷ rest)
    turns : LeftTurns (p ∷ rest)
    left : (q : Point) → In q (p ∷ Q) → OnLeft (p ∷ rest) q
    end : last p rest ≡ z

  module _ (p : Point) (Q : List Point) (ahead_of_lem : (q : Point) → In q Q → Less p q) where
    -- c ∷ l is what is left of the chain for Q; the points of Q before c are on the left of the way from p to c
    push_on : (c : Point) (l : List Point) → ((q : Point) → In q (c ∷ l) → In q Q) → Sorted Less (c ∷ l) → LeftTurns (c ∷ l)
        → ((q : Point) → In q Q → OnLeft (c ∷ l) q) → ((q : Point) → In q Q → Less q c → pos 0 ≼ cross p c q)
        → ((q : Point) → In q Q → (q ≡ last c l) ⊎ (Less q (last c l))) → Pushed p Q (last c l) (push p (c ∷ l))
    push_on c [] mem s t left early end = record {
      rest = c ∷ [];
      is = push-one p c;
      members = mem;
      sorted = (λ q i. ahead_of_lem q (mem q i), s);
      turns = tt;
      left = also (λ q. OnLeft (p ∷ c ∷ []) q) (at-start p c, tt) (λ q i. (go q i (end q i), tt));
      end = refl;
    }
      where
        go : (q : Point) → In q Q → (q ≡ c) ⊎ (Less q c) → pos 0 ≼ cross p c q
        go q i (inl e) = at_end p c q e
        go q i (inr h) = early q i h
    push_on c (e ∷ l) mem s t left early end = go (lt_z (pos 0) (cross p c e)) refl
        (push_on e l (λ q i. mem q (Memᴰ.tail i)) s.1 (turns_rest c e l t) (λ q i. (left q i).1))
      where
        pc : Less p c
        pc = ahead_of_lem c (mem c (Memᴰ.head refl))

        ce : Less c e
        ce = s.0 e (Memᴰ.head refl)

        turns_rest : (c e : Point) (l : List Point) → LeftTurns (c ∷ e ∷ l) → LeftTurns (e ∷ l)
        turns_rest c e [] t = tt
        turns_rest c e (f ∷ l) t = t.1

        beside : pos 0 ≺ cross p c e → (q : Point) → In q Q → Compared Less q c → pos 0 ≼ cross p c q
        beside h q i (less k) = early q i k
        beside h q i (same k) = at_end p c q k
        beside h q i (more k) = d.ahead p c e q pc ce k (≤_of_< h) (left q i).0

        kept : lt_z (pos 0) (cross p c e) ≡ true → Pushed p Q (last e l) (push p (c ∷ e ∷ l))
        kept b = let h : pos 0 ≺ cross p c e = lt_true (pos 0) (cross p c e) b in record {
          rest = c ∷ e ∷ l;
          is = push_keep p c e l b;
          members = mem;
          sorted = (λ q i. ahead_of_lem q (mem q i), s);
          turns = (h, t);
          left = also (λ q. OnLeft (p ∷ c ∷ e ∷ l) q) (at-start p c, from_behind p c e l pc s (≤_of_< h) t)
              (λ q i. (beside h q i (d.compare q c), left q i));
          end = refl;
        }

        dropped : lt_z (pos 0) (cross p c e) ≡ false → (q : Point) → In q Q → Less q e → pos 0 ≼ cross p e q
        dropped b q i k = d.behind p c e q (d.trans p c e pc ce) ce k (lt_false (pos 0) (cross p c e) b) (left q i).0

        go : (b : Bool) → lt_z (pos 0) (cross p c e) ≡ b
            → (((q : Point) → In q Q → Less q e → pos 0 ≼ cross p e q) → ((q : Point) → In q Q → (q ≡ last e l) ⊎ (Less q (last e l)))
            → Pushed p Q (last e l) (push p (e ∷ l)))
            → Pushed p Q (last e l) (push p (c ∷ e ∷ l))
        go true b f = kept b
        go false b f = subst (Pushed p Q (last e l)) (sym (push-drop p c e l b)) (f (dropped b) end)

  -- ---- the whole chain

  pub record Chained (p : Point) (Q : List Point) : Type 0 where
    pub rest : List Point
    pub is : chain (p ∷ Q) ≡ p ∷ rest
    pub is_chain : Chain Less p rest Q

  chain_on : (p b : Point) (Q l : List Point) → Sorted Less (p ∷ b ∷ Q) → Chain Less b l Q → Pushed p (b ∷ Q) (last b l) (push p (b ∷ l))
  chain_on p b Q l s c = push_on p (b ∷ Q) s.0 b l (also (λ q. In q (b ∷ Q)) (Memᴰ.head refl) (λ q i. Memᴰ.tail (c.members q i)))
      c.sorted c.turns c.left
      (also (λ q. Less q b → pos 0 ≼ cross p b q) (λ h. absurd (d.irrefl b h)) (λ q i h. absurd (d.irrefl b (d.trans b q b (s.1.0 q i) h))))
      (λ q i. subst (λ (z : Point). (q ≡ z) ⊎ Less q z) (sym c.end) (up_to_last Less b Q s.1 q i))

  pub chained : (p : Point) (Q : List Point) → Sorted Less (p ∷ Q) → Chained p Q
  unfolding chain
  chained p [] s = record {
    rest = [];
    is = push_none p;
    is_chain = record { members = λ q i. i; sorted = s; turns = tt; left = λ q i. tt; end = refl };
  }
  chained p (b ∷ Q) s = go (chained b Q s.1)
    where
      go : Chained b Q → Chained p (b ∷ Q)
      go r = let t = chain_on p b Q r.rest s r.is_chain in record {
        rest = t.rest;
        is = ap (push p) r.is ∙ t.is;
        is_chain = record { members = t.members; sorted = t.sorted; turns = t.turns; left = t.left; end = t.end ∙ r.is_chain.end };
      }
