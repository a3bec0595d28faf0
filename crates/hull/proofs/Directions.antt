-- The rising and the falling order of points are directions for a chain.
--
--   Rises, Falls p q               == p comes before q, and after q
--   rising_way, falling_way        : what left turns along them say of one another
use mathlib.Core.Path.{refl}
use mathlib.Core.List.{List, [], ◌∷◌}
use lib.Dec.{T}
use lib.IntN.{ℤ, pos, negsuc, neg_ℤ, ◌-ℤ◌, ◌*ℤ◌}
use Rattle.integers.specs.Order.{◌≼◌}
use Rattle.integers.proofs.Ring.{poly}
use Rattle.integers.proofs.Order.{≤_of_<, nonneg, nonneg_by, clash, le, lt, eq, ◌⊞◌, ◌⊠◌}
use Rattle.geometry.specs.declared.Point.{Point}
use Rattle.geometry.specs.Order.{before}
use Rattle.point_lists.proofs.Order.{before_trans, before_not_equal}
use Rattle.hull.specs.Hull.{cross}
use Rattle.hull.proofs.Turns.{Forward, right, up, forward, not_left, follows, Ordered, ordered}
use Rattle.hull.proofs.Pushed.{Compared, less, same, more, Direction}
use Rattle.hull.proofs.Turns as Turns

abbrev pub Rises : Point → Point → Type 0
Rises p q = T (before p q)

abbrev pub Falls : Point → Point → Type 0
Falls p q = T (before q p)

-- the turn of two steps, each the difference of two points
abbrev turn : Point → Point → Point → Point → ℤ
turn a b c d = (b.x -ℤ a.x) *ℤ (d.y -ℤ c.y) -ℤ (b.y -ℤ a.y) *ℤ (d.x -ℤ c.x)

along : (a b c d e f : Point) → T (before a b) → T (before c d) → T (before e f) → pos 0 ≼ turn a b c d → pos 0 ≼ turn c d e f → pos 0 ≼ turn a b e f
along a b c d e f s t u = follows (b.x -ℤ a.x) (b.y -ℤ a.y) (d.x -ℤ c.x) (d.y -ℤ c.y) (f.x -ℤ e.x) (f.y -ℤ e.y) (forward a b s) (forward c d t)
    (forward e f u)

module _ (p q r s : Point) where
  abbrev coordinates : List ℤ
  coordinates = p.x ∷ p.y ∷ q.x ∷ q.y ∷ r.x ∷ r.y ∷ s.x ∷ s.y ∷ []

  later_up : Rises p q → Rises q r → Rises r s → pos 0 ≼ cross p q r → pos 0 ≼ cross q r s → pos 0 ≼ cross p r s
  later_up a b c h k = nonneg coordinates
      (along p q q r r s a b c (nonneg coordinates h (search poly depth 30) tt) (nonneg coordinates k (search poly depth 30) tt) ⊞ k)
      (search poly depth 30) tt

  later_down : Falls p q → Falls q r → Falls r s → pos 0 ≼ cross p q r → pos 0 ≼ cross q r s → pos 0 ≼ cross p r s
  later_down a b c h k = nonneg coordinates
      (along q p r q s r a b c (nonneg coordinates h (search poly depth 30) tt) (nonneg coordinates k (search poly depth 30) tt) ⊞ k)
      (search poly depth 30) tt

  ahead-up : Rises p q → Rises q r → Rises q s → pos 0 ≼ cross p q r → pos 0 ≼ cross q r s → pos 0 ≼ cross p q s
  ahead-up a b c h k = nonneg coordinates
      (along p q q r q s a b c (nonneg coordinates h (search poly depth 30) tt) (nonneg coordinates k (search poly depth 30) tt))
      (search poly depth 30) tt

  ahead-down : Falls p q → Falls q r → Falls q s → pos 0 ≼ cross p q r → pos 0 ≼ cross q r s → pos 0 ≼ cross p q s
  ahead-down a b c h k = nonneg coordinates
      (along q p r q s q a b c (nonneg coordinates h (search poly depth 30) tt) (nonneg coordinates k (search poly depth 30) tt))
      (search poly depth 30) tt

  behind_up : Rises p r → Rises q r → Rises s r → cross p q r ≼ pos 0 → pos 0 ≼ cross q r s → pos 0 ≼ cross p r s
  behind_up a b c h k = nonneg coordinates
      (along s r q r p r c b a (nonneg coordinates k (search poly depth 30) tt) (nonneg coordinates (le h) (search poly depth 30) tt))
      (search poly depth 30) tt

  behind_down : Falls p r → Falls q r → Falls s r → cross p q r ≼ pos 0 → pos 0 ≼ cross q r s → pos 0 ≼ cross p r s
  behind_down a b c h k = nonneg coordinates
      (along r s r q r p c b a (nonneg coordinates k (search poly depth 30) tt) (nonneg coordinates (le h) (search poly depth 30) tt))
      (search poly depth 30) tt

-- ---- a point over the way between two others

module _ (a q t b c : Point) where
  abbrev five : List ℤ
  five = a.x ∷ a.y ∷ q.x ∷ q.y ∷ t.x ∷ t.y ∷ b.x ∷ b.y ∷ c.x ∷ c.y ∷ []

  over-up : Rises a q → Rises q t → Rises b c → cross a q t ≼ pos 0 → pos 0 ≼ cross b c a → pos 0 ≼ cross b c t → pos 0 ≼ cross b c q
  over-up aq qt bc h f g = go (forward a t (before_trans a q t aq qt)) (forward a q aq) (forward q t qt)
    where
      go : Forward (t.x -ℤ a.x) (t.y -ℤ a.y) → Forward (q.x -ℤ a.x) (q.y -ℤ a.y) → Forward (t.x -ℤ q.x) (t.y -ℤ q.y) → pos 0 ≼ cross b c q
      go (right k) u v = nonneg_by five (t.x -ℤ a.x) k (not_left v ⊠ f ⊞ not_left u ⊠ g ⊞ not_left (forward b c bc) ⊠ le h) (search poly depth 40) tt
      go (up e k) (right u) v = clash five (lt u ⊞ not_left v ⊞ eq (negsuc 0) e) (search poly depth 40) tt
      go (up e k) (up u m) (right v) = clash five (lt v ⊞ eq (negsuc 0) e ⊞ eq (pos 1) u) (search poly depth 40) tt
      go (up e k) (up u m) (up v n) = nonneg_by five (t.y -ℤ a.y) k
          (≤_of_< n ⊠ f ⊞ ≤_of_< m ⊠ g ⊞ eq (neg_ℤ (c.y -ℤ b.y) *ℤ (t.y -ℤ a.y)) u ⊞ eq ((c.y -ℤ b.y) *ℤ (q.y -ℤ a.y)) e)
          (search poly depth 40) tt

  over-down : Falls a q → Falls q t → Falls b c → cross a q t ≼ pos 0 → pos 0 ≼ cross b c a → pos 0 ≼ cross b c t → pos 0 ≼ cross b c q
  over-down aq qt bc h f g = go (forward t a (before_trans t q a qt aq)) (forward q a aq) (forward t q qt)
    where
      go : Forward (a.x -ℤ t.x) (a.y -ℤ t.y) → Forward (a.x -ℤ q.x) (a.y -ℤ q.y) → Forward (q.x -ℤ t.x) (q.y -ℤ t.y) → pos 0 ≼ cross b c q
      go (right k) u v = nonneg_by five (a.x -ℤ t.x) k (not_left v ⊠ f ⊞ not_left u ⊠ g ⊞ not_left (forward c b bc) ⊠ le h) (search poly depth 40) tt
      go (up e k) (right u) v = clash five (lt u ⊞ not_left v ⊞ eq (negsuc 0) e) (search poly depth 40) tt
      go (up e k) (up u m) (right v) = clash five (lt v ⊞ eq (negsuc 0) e ⊞ eq (pos 1) u) (search poly depth 40) tt
      go (up e k) (up u m) (up v n) = nonneg_by five (a.y -ℤ t.y) k
          (≤_of_< n ⊠ f ⊞ ≤_of_< m ⊠ g ⊞ eq ((c.y -ℤ b.y) *ℤ (a.y -ℤ t.y)) u ⊞ eq (neg_ℤ (c.y -ℤ b.y) *ℤ (a.y -ℤ q.y)) e)
          (search poly depth 40) tt

-- ---- the two directions

compare_up : (p q : Point) → Ordered p q → Compared Rises p q
compare_up p q (Turns.less h) = less h
compare_up p q (Turns.same e) = same e
compare_up p q (Turns.more h) = more h

compare_down : (p q : Point) → Ordered p q → Compared Falls p q
compare_down p q (Turns.less h) = more h
compare_down p q (Turns.same e) = same e
compare_down p q (Turns.more h) = less h

pub rising_way : Direction Rises
rising_way = record {
  irrefl = λ p h. before_not_equal p p h refl;
  trans = before_trans;
  compare = λ p q. compare_up p q (ordered p q);
  later = later_up;
  ahead = ahead-up;
  behind = behind_up;
  over = over-up;
}

pub falling_way : Direction Falls
falling_way = record {
  irrefl = λ p h. before_not_equal p p h refl;
  trans = λ p q r h k. before_trans r q p k h;
  compare = λ p q. compare_down p q (ordered p q);
  later = later_down;
  ahead = ahead-down;
  behind = behind_down;
  over = over-down;
}
