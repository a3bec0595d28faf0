-- What is left to look at in the search through the sets of points of a list Q, and what each step makes of it.
--
--   pairs_from i           == the first set that passes, of the pairs from point i on, and then the triples
--   pairs_with p i j       == of the pairs of p with a point from j on, then the pairs from i + 1 on, then the triples
--   triples_from i         == of the triples from point i on
--   triples_with p i j     == of the triples of p with two points from j on, then those from i + 1 on
--   triples_of p q i j k   == of the triples of p, q and a point from k on, then those of p from j + 1 on, then those from i + 1 on
--   pairs-at, triples_at, triples_with_at : with the next point
--   pairs_end, pairs_with_end, triples_end, triples_with_end, triples_of_end : where there is none
--   pair_hit, pair_miss, triple_hit, triple_miss : a set that passes is the answer, one that does not is left out
--   ones_hit, ones_miss   : the same for single points, which all pass or all fail
--   fit_some              : where some set passes, there is a point
--   acute_set T            == T is three points with acute angles; three-acute: it is the test of triples, whatever the disk
use mathlib.Core.Path.{◌≡◌, refl, ◌∙◌, ap}
use mathlib.Core.Bool.{Bool, true, false}
use mathlib.Core.List.Memᴰ
use mathlib.Core.List.{List, [], ◌∷◌, ◌++◌}
use Prim.Native.Nat.{ℕ, zero, suc, ◌+◌, ◌≤◌}
use native.Mathlib.Omega.{arith}
use lib.IntN.{ℤ}
use lib.ListN.{length, drop}
use Rattle.geometry.specs.declared.Point.{Point}
use Rattle.geometry.specs.Plane.{Disk}
use Rattle.geometry.specs.Points.{points, first_points}
use Rattle.disks.specs.Support.{fronted, choose, candidates, first_of}
use Rattle.disks.proofs.Choose.{Among, choose-length}
use Rattle.disks.proofs.First.{first_yes, first_no}
use Rattle.support_tests.specs.Tests.{acute, fits}
use Rattle.support_search.specs.Search.{first_fit}

fronted_append : (p : Point) (cs ds : List (List Point)) → fronted p (cs ++ ds) ≡ fronted p cs ++ fronted p ds
unfolding fronted
fronted_append p [] ds = refl
fronted_append p (T ∷ cs) ds = ap {B = List (List Point)} (λ es. (p ∷ T) ∷ es) (fronted_append p cs ds)

-- ---- the test of triples

unfoldable pub acute_set : List Point → Bool
acute_set [] = false
acute_set (p ∷ []) = false
acute_set (p ∷ q ∷ []) = false
acute_set (p ∷ q ∷ r ∷ []) = acute p q r
acute_set (p ∷ q ∷ r ∷ t ∷ T) = false

first_agree : (f g : List Point → Bool) (cs : List (List Point)) → ((T : List Point) → Among T cs → f T ≡ g T) → first_of f cs ≡ first_of g cs
unfolding first_of
first_agree f g [] h = refl
first_agree f g (T ∷ cs) h = rw (h T (Memᴰ.head refl), first_agree f g cs (λ S i. h S (Memᴰ.tail i)))

fits-acute : (d : Disk) (T : List Point) → length T ≡ 3 → fits d T ≡ acute_set T
unfolding fits acute_set
fits-acute d [] h = absurd (omega arith)
fits-acute d (p ∷ []) h = absurd (omega arith)
fits-acute d (p ∷ q ∷ []) h = absurd (omega arith)
fits-acute d (p ∷ q ∷ r ∷ []) h = refl
fits-acute d (p ∷ q ∷ r ∷ t ∷ T) h = absurd (omega arith)

pub three-acute : (d : Disk) (Q : List Point) → first_of (fits d) (choose 3 Q) ≡ first_of acute_set (choose 3 Q)
three-acute d Q = first_agree (fits d) acute_set (choose 3 Q) (λ T i. fits-acute d T (choose-length 3 Q T i))

-- ---- single points

pub fit_some : (d : Disk) (n : ℕ) (l : List ℤ) → 1 ≤ length (first_fit d (first_points n l)) → 1 ≤ n
unfolding first_fit choose first_of points
fit_some d zero l h = absurd (omega arith)
fit_some d (suc n) l h = omega arith

module _ (f : List Point → Bool) (Q : List Point) where
  pub ones_hit : (p : Point) (R : List Point) → Q ≡ p ∷ R → f (p ∷ []) ≡ true → first_of f (candidates Q) ≡ p ∷ []
  unfolding choose fronted
  ones_hit p R e h = ap (λ (S : List Point). first_of f (candidates S)) e ∙ first_yes f (p ∷ []) (choose 1 R ++ (choose 2 (p ∷ R) ++ choose 3 (p ∷ R))) h

  pub ones_miss : (R : List Point) (cs : List (List Point)) → ((p : Point) → f (p ∷ []) ≡ false) → first_of f (choose 1 R ++ cs) ≡ first_of f cs
  unfolding choose fronted
  ones_miss [] cs h = refl
  ones_miss (p ∷ R) cs h = first_no f (p ∷ []) (choose 1 R ++ cs) (h p) ∙ ones_miss R cs h

  -- ---- pairs

  abbrev pub pairs_from : ℕ → List Point
  pairs_from i = first_of f (choose 2 (drop i Q) ++ choose 3 Q)

  abbrev pub pairs_with : Point → ℕ → ℕ → List Point
  pairs_with p i j = first_of f ((fronted p (choose 1 (drop j Q)) ++ choose 2 (drop (i + 1) Q)) ++ choose 3 Q)

  abbrev pub triples_from : ℕ → List Point
  triples_from i = first_of f (choose 3 (drop i Q))

  module _ (p : Point) (i : ℕ) where
    pub pairs-at : drop i Q ≡ p ∷ drop (i + 1) Q → pairs_from i ≡ pairs_with p i (i + 1)
    unfolding choose
    pairs-at e = ap (λ (R : List Point). first_of f (choose 2 R ++ choose 3 Q)) e

    module _ (q : Point) (j : ℕ) (e : drop j Q ≡ q ∷ drop (j + 1) Q) where
      next_pair : pairs_with p i j ≡ first_of f ((p ∷ q ∷ []) ∷ ((fronted p (choose 1 (drop (j + 1) Q)) ++ choose 2 (drop (i + 1) Q)) ++ choose 3 Q))
      unfolding choose fronted
      next_pair = ap (λ (R : List Point). first_of f ((fronted p (choose 1 R) ++ choose 2 (drop (i + 1) Q)) ++ choose 3 Q)) e

      pub pair_hit : f (p ∷ q ∷ []) ≡ true → pairs_with p i j ≡ p ∷ q ∷ []
      pair_hit h = next_pair ∙ first_yes f (p ∷ q ∷ []) ((fronted p (choose 1 (drop (j + 1) Q)) ++ choose 2 (drop (i + 1) Q)) ++ choose 3 Q) h

      pub pair_miss : f (p ∷ q ∷ []) ≡ false → pairs_with p i j ≡ pairs_with p i (j + 1)
      pair_miss h = next_pair ∙ first_no f (p ∷ q ∷ []) ((fronted p (choose 1 (drop (j + 1) Q)) ++ choose 2 (drop (i + 1) Q)) ++ choose 3 Q) h

    pub pairs_with_end : (j : ℕ) → drop j Q ≡ [] → pairs_with p i j ≡ pairs_from (i + 1)
    unfolding choose fronted
    pairs_with_end j e = ap (λ (R : List Point). first_of f ((fronted p (choose 1 R) ++ choose 2 (drop (i + 1) Q)) ++ choose 3 Q)) e

  pub pairs_end : (i : ℕ) → drop i Q ≡ [] → pairs_from i ≡ triples_from 0
  unfolding choose
  pairs_end i e = ap (λ (R : List Point). first_of f (choose 2 R ++ choose 3 Q)) e

  -- ---- triples

  abbrev pub triples_with : Point → ℕ → ℕ → List Point
  triples_with p i j = first_of f (fronted p (choose 2 (drop j Q)) ++ choose 3 (drop (i + 1) Q))

  abbrev pub triples_of : Point → Point → ℕ → ℕ → ℕ → List Point
  triples_of p q i j k = first_of f ((fronted p (fronted q (choose 1 (drop k Q))) ++ fronted p (choose 2 (drop (j + 1) Q))) ++ choose 3 (drop (i + 1) Q))

  module _ (p : Point) (i : ℕ) where
    pub triples_at : drop i Q ≡ p ∷ drop (i + 1) Q → triples_from i ≡ triples_with p i (i + 1)
    unfolding choose
    triples_at e = ap (λ (R : List Point). first_of f (choose 3 R)) e

    module _ (q : Point) (j : ℕ) where
      pub triples_with_at : drop j Q ≡ q ∷ drop (j + 1) Q → triples_with p i j ≡ triples_of p q i j (j + 1)
      unfolding choose
      triples_with_at e =
          ap (λ (R : List Point). first_of f (fronted p (choose 2 R) ++ choose 3 (drop (i + 1) Q))) e
          ∙ ap (λ (cs : List (List Point)). first_of f (cs ++ choose 3 (drop (i + 1) Q)))
          (fronted_append p (fronted q (choose 1 (drop (j + 1) Q))) (choose 2 (drop (j + 1) Q)))

      module _ (r : Point) (k : ℕ) (e : drop k Q ≡ r ∷ drop (k + 1) Q) where
        abbrev behind : List (List Point)
        behind = (fronted p (fronted q (choose 1 (drop (k + 1) Q))) ++ fronted p (choose 2 (drop (j + 1) Q))) ++ choose 3 (drop (i + 1) Q)

        next_triple : triples_of p q i j k ≡ first_of f ((p ∷ q ∷ r ∷ []) ∷ behind)
        unfolding choose fronted
        next_triple = ap
            (λ (R : List Point). first_of f ((fronted p (fronted q (choose 1 R)) ++ fronted p (choose 2 (drop (j + 1) Q))) ++ choose 3 (drop (i + 1) Q))) e

        pub triple_hit : f (p ∷ q ∷ r ∷ []) ≡ true → triples_of p q i j k ≡ p ∷ q ∷ r ∷ []
        triple_hit h = next_triple ∙ first_yes f (p ∷ q ∷ r ∷ []) behind h

        pub triple_miss : f (p ∷ q ∷ r ∷ []) ≡ false → triples_of p q i j k ≡ triples_of p q i j (k + 1)
        triple_miss h = next_triple ∙ first_no f (p ∷ q ∷ r ∷ []) behind h

      pub triples_of_end : (k : ℕ) → drop k Q ≡ [] → triples_of p q i j k ≡ triples_with p i (j + 1)
      unfolding choose fronted
      triples_of_end k e = ap
          (λ (R : List Point). first_of f ((fronted p (fronted q (choose 1 R)) ++ fronted p (choose 2 (drop (j + 1) Q))) ++ choose 3 (drop (i + 1) Q))) e

    pub triples_with_end : (j : ℕ) → drop j Q ≡ [] → triples_with p i j ≡ triples_from (i + 1)
    unfolding choose fronted
    triples_with_end j e = ap (λ (R : List Point). first_of f (fronted p (choose 2 R) ++ choose 3 (drop (i + 1) Q))) e

  pub triples_end : (i : ℕ) → drop i Q ≡ [] → triples_from i ≡ []
  unfolding choose first_of
  triples_end i e = ap (λ (R : List Point). first_of f (choose 3 R)) e
