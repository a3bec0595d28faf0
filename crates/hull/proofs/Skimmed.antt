-- A chain over skimmed points is a chain for all of them.
--
--   skim_keep, skim_drop  : `skimmed`, by the outcome of its test
--   Covered a S q         == q is on the left of the way from a to a later point of S, or on it
--   Skim a Q, skim        == what `skimmed a Q` is: points of Q in their order, of which each other one is covered
--   skim_chained          : `skim_chain` of a sorted list is a chain for it
use mathlib.Core.Path.{◌≡◌, refl, sym, ◌∙◌, ap, subst}
use mathlib.Core.Logic.{◌⊎◌, inl, inr}
use mathlib.Core.Bool.{Bool, true, false, true≢false}
use mathlib.Core.List.Memᴰ
use mathlib.Core.List.{List, [], ◌∷◌}
use lib.IntN.{pos}
use lib.Signed.{lt_z}
use Rattle.integers.specs.Order.{◌≼◌}
use Rattle.integers.proofs.Bounds.{lt_false}
use Rattle.geometry.specs.declared.Point.{Point}
use Rattle.point_lists.specs.Sets.{In}
use Rattle.point_lists.proofs.Sets.{also}
use Rattle.hull.specs.Hull.{cross, OnLeft}
use Rattle.hull.specs.Chains.{chain}
use Rattle.hull.specs.Skimmed.{is_needed, skimmed, skim_chain}
use Rattle.hull.proofs.Pushed.{Direction, Sorted, last, Chain, Chained, chained}

-- ---- the two cases

pub needed_first : (a p : Point) → is_needed a p [] ≡ true
unfolding is_needed
needed_first a p = refl

pub needed_is : (a p t : Point) (l : List Point) → is_needed a p (t ∷ l) ≡ lt_z (pos 0) (cross a p t)
unfolding is_needed
needed_is a p t l = refl

chain_none : chain [] ≡ []
unfolding chain
chain_none = refl

pub skim_none : (a : Point) → skimmed a [] ≡ []
unfolding skimmed
skim_none a = refl

pub skim_keep : (a p : Point) (Q : List Point) → is_needed a p (chain (skimmed a Q)) ≡ true → skimmed a (p ∷ Q) ≡ p ∷ skimmed a Q
unfolding skimmed
skim_keep a p Q e = rw e

pub skim_drop : (a p : Point) (Q : List Point) → is_needed a p (chain (skimmed a Q)) ≡ false → skimmed a (p ∷ Q) ≡ skimmed a Q
unfolding skimmed
skim_drop a p Q e = rw e

-- ---- what is kept, and what is left out

module _ {Less : Point → Point → Type 0} (d : Direction Less) (a : Point) where
  record Covered (S : List Point) (q : Point) : Type 0 where
    t : Point
    t_in : In t S
    later : Less q t
    over : cross a q t ≼ pos 0

  record Skim (Q S : List Point) : Type 0 where
    members : (q : Point) → In q S → In q Q
    sorted : Sorted Less S
    covered : (q : Point) → In q Q → In q S ⊎ Covered S q
    end : (x : Point) → last x S ≡ last x Q

  kept : (p : Point) (Q S : List Point) → Sorted Less (p ∷ Q) → Skim Q S → Skim (p ∷ Q) (p ∷ S)
  kept p Q S s k = record {
    members = also (λ q. In q (p ∷ Q)) (Memᴰ.head refl) (λ q i. Memᴰ.tail (k.members q i));
    sorted = (λ q i. s.0 q (k.members q i), k.sorted);
    covered = also (λ q. In q (p ∷ S) ⊎ Covered (p ∷ S) q) (inl (Memᴰ.head refl)) (λ q i. more q (k.covered q i));
    end = λ x. k.end p;
  }
    where
      more : (q : Point) → In q S ⊎ Covered S q → In q (p ∷ S) ⊎ Covered (p ∷ S) q
      more q (inl i) = inl (Memᴰ.tail i)
      more q (inr c) = inr (record { t = c.t; t_in = Memᴰ.tail c.t_in; later = c.later; over = c.over })

  left_out : (p t : Point) (Q S : List Point) → Sorted Less (p ∷ Q) → cross a p t ≼ pos 0 → Skim Q (t ∷ S) → Skim (p ∷ Q) (t ∷ S)
  left_out p t Q S s h k = record {
    members = λ q i. Memᴰ.tail (k.members q i);
    sorted = k.sorted;
    covered = also (λ q. In q (t ∷ S) ⊎ Covered (t ∷ S) q)
        (inr (record { t = t; t_in = Memᴰ.head refl; later = s.0 t (k.members t (Memᴰ.head refl)); over = h })) k.covered;
    end = λ x. k.end p;
  }

  skim : (Q : List Point) → Sorted Less Q → Skim Q (skimmed a Q)
  skim [] s = rw (skim_none a) (record { members = λ q i. i; sorted = tt; covered = λ q i. inl i; end = λ x. refl })
  skim (p ∷ Q) s = go (is_needed a p (chain (skimmed a Q))) refl (skimmed a Q) refl (skim Q s.1)
    where
      go : (b : Bool) → is_needed a p (chain (skimmed a Q)) ≡ b → (S : List Point) → skimmed a Q ≡ S → Skim Q (skimmed a Q)
          → Skim (p ∷ Q) (skimmed a (p ∷ Q))
      go true e S is k = subst (Skim (p ∷ Q)) (sym (skim_keep a p Q e)) (kept p Q (skimmed a Q) s k)
      go false e [] is k =
          absurd (true≢false (sym (ap (λ (R : List Point). is_needed a p (chain R)) is ∙ ap (is_needed a p) chain_none ∙ needed_first a p) ∙ e))
      go false e (t ∷ S) is k =
          let k' = subst (Skim Q) is k in
          let c = chained d t S k'.sorted in
          let test : lt_z (pos 0) (cross a p t) ≡ false =
          sym (ap (λ (R : List Point). is_needed a p (chain R)) is ∙ ap (is_needed a p) c.is ∙ needed_is a p t c.rest) ∙ e in
          subst (Skim (p ∷ Q)) (sym (skim_drop a p Q e ∙ is)) (left_out p t Q S s (lt_false (pos 0) (cross a p t) test) k')

  -- ---- the chain

  path_over : (q t : Point) (l : List Point) → Sorted Less l → Less a q → Less q t → cross a q t ≼ pos 0 → OnLeft l a → OnLeft l t → OnLeft l q
  path_over q t [] s aq qt h f g = tt
  path_over q t (b ∷ []) s aq qt h f g = tt
  path_over q t (b ∷ c ∷ l) s aq qt h f g = (
    d.over a q t b c aq qt (s.0 c (Memᴰ.head refl)) h f.0 g.0,
    path_over q t (c ∷ l) s.1 aq qt h f.1 g.1,
  )

  pub record SkimChained (Q : List Point) : Type 0 where
    pub rest : List Point
    pub is : skim_chain (a ∷ Q) ≡ a ∷ rest
    pub is_chain : Chain Less a rest Q

  pub skim_chained : (Q : List Point) → Sorted Less (a ∷ Q) → SkimChained Q
  unfolding skim_chain
  skim_chained Q s = record {
    rest = c.rest;
    is = c.is;
    is_chain = record {
      members = λ q i. k.members q (c.is_chain.members q i);
      sorted = c.is_chain.sorted;
      turns = c.is_chain.turns;
      left = also (λ q. OnLeft (a ∷ c.rest) q) (c.is_chain.left a (Memᴰ.head refl)) (λ q i. beside q i (k.covered q i));
      end = c.is_chain.end ∙ k.end a;
    };
  }
    where
      k : Skim Q (skimmed a Q)
      k = skim Q s.1

      c : Chained d a (skimmed a Q)
      c = chained d a (skimmed a Q) (λ q i. s.0 q (k.members q i), k.sorted)

      beside : (q : Point) → In q Q → In q (skimmed a Q) ⊎ Covered (skimmed a Q) q → OnLeft (a ∷ c.rest) q
      beside q i (inl j) = c.is_chain.left q (Memᴰ.tail j)
      beside q i (inr v) = path_over q v.t (a ∷ c.rest) c.is_chain.sorted (s.0 q i) v.later v.over
          (c.is_chain.left a (Memᴰ.head refl)) (c.is_chain.left v.t (Memᴰ.tail v.t_in))
