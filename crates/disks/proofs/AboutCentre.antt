-- Boundary points about the centre fix the disk; a disk whose boundary points all lie to one side can be made smaller.
--
--   arm F p         == E·p − (X, Y): from the centre to p, times E
--   tilt F v        == the form by which F is nudged towards v
--   boundary_length      : the arm of a boundary point has the squared length S
--   one_strong, two_strong, three_strong : a boundary point with arm zero, two with opposite arms, three with the centre strictly inside
--                     their triangle have F as their strongly minimal disk
--   no_side         : at a strongly minimal disk no v has a positive product with every boundary point's arm
use mathlib.Core.Path.{◌≡◌, refl, sym, ◌∙◌, ap, subst}
use mathlib.Core.Logic.{◌⊎◌, inl, inr}
use mathlib.Core.List.Memᴰ
use mathlib.Core.List.{List, [], ◌∷◌}
use lib.IntN.{ℤ, pos, negsuc, neg_ℤ, ◌+ℤ◌, ◌-ℤ◌, ◌*ℤ◌}
use lib.Signed.{◌≤ℤ◌, ◌<ℤ◌}
use Rattle.integers.proofs.Ring.{ring, poly, linear, eqn}
use Rattle.integers.proofs.Order.{≤_of_eq, ≤_of_<, nonneg, positive, nonneg_by, clash, le, lt, eq, sq, nn, ◌⊞◌, ◌⊠◌, <-≤_clash, Compared, less, same, more}
use Rattle.integers.proofs.Order.{compared}
use Rattle.geometry.specs.declared.Point.{Point}
use Rattle.point_lists.specs.Sets.{In}
use Rattle.point_lists.proofs.Sets.{none_of, also}
use Rattle.disks.proofs.Lifted.{Lifted, value, squared_radius, gap, combine, apart_x, apart_y, value_combine, gap_combine, gap_self}
use Rattle.disks.proofs.Minimal.{Feasible, StronglyMinimal}
use Rattle.disks.proofs.Base.{positive_one, positive_two}
use Rattle.disks.proofs.Arms.{dot, cross, Opposite}

abbrev pub arm : Lifted → Point → Point
arm F p = record { x = F.e *ℤ p.x -ℤ F.cx; y = F.e *ℤ p.y -ℤ F.cy }

arm_length : (F : Lifted) (p : Point) → dot (arm F p) (arm F p) ≡ squared_radius F +ℤ F.e *ℤ value F p
arm_length F p = ring (F.e ∷ F.cx ∷ F.cy ∷ F.k ∷ p.x ∷ p.y ∷ []) (search poly depth 30) tt

pub boundary_length : (F : Lifted) (p : Point) → value F p ≡ pos 0 → dot (arm F p) (arm F p) ≡ squared_radius F
boundary_length F p h = arm_length F p ∙ add_none (squared_radius F) F.e (value F p) h
  where
    add_none : (s e v : ℤ) → v ≡ pos 0 → s +ℤ e *ℤ v ≡ s
    add_none s e v q = linear (s ∷ e ∷ v ∷ []) (eqn e q) (search poly depth 30) tt

-- ---- the gap, seen from a boundary point

gap_at : (F G : Lifted) (p : Point)
    → (F.e *ℤ F.e) *ℤ value G p +ℤ gap F G ≡ pos 2 *ℤ ((arm F p).x *ℤ apart_x F G +ℤ (arm F p).y *ℤ apart_y F G) +ℤ G.e *ℤ (F.e *ℤ value F p)
gap_at F G p = ring (F.e ∷ F.cx ∷ F.cy ∷ F.k ∷ G.e ∷ G.cx ∷ G.cy ∷ G.k ∷ p.x ∷ p.y ∷ []) (search poly depth 30) tt

gap_boundary : (F G : Lifted) (p : Point) → value F p ≡ pos 0
    → (F.e *ℤ F.e) *ℤ value G p +ℤ gap F G ≡ pos 2 *ℤ ((arm F p).x *ℤ apart_x F G +ℤ (arm F p).y *ℤ apart_y F G)
gap_boundary F G p h = gap_at F G p ∙ add_none (pos 2 *ℤ ((arm F p).x *ℤ apart_x F G +ℤ (arm F p).y *ℤ apart_y F G)) G.e F.e (value F p) h
  where
    add_none : (s g e v : ℤ) → v ≡ pos 0 → s +ℤ g *ℤ (e *ℤ v) ≡ s
    add_none s g e v q = linear (s ∷ g ∷ e ∷ v ∷ []) (eqn (g *ℤ e) q) (search poly depth 30) tt

one-least : (e ga g ax ay dx dy : ℤ) → (e *ℤ e) *ℤ ga +ℤ g ≡ pos 2 *ℤ (ax *ℤ dx +ℤ ay *ℤ dy) → ax ≡ pos 0 → ay ≡ pos 0 → ga ≤ℤ pos 0 → pos 0 ≤ℤ g
one-least e ga g ax ay dx dy h hx hy ka = nonneg (e ∷ ga ∷ g ∷ ax ∷ ay ∷ dx ∷ dy ∷ []) (sq e ⊠ le ka ⊞ eq (pos 1) h ⊞ eq (pos 2 *ℤ dx) hx
    ⊞ eq (pos 2 *ℤ dy) hy) (search poly depth 30) tt

two-least : (e ga gb g ax ay bx by dx dy : ℤ) → (e *ℤ e) *ℤ ga +ℤ g ≡ pos 2 *ℤ (ax *ℤ dx +ℤ ay *ℤ dy)
    → (e *ℤ e) *ℤ gb +ℤ g ≡ pos 2 *ℤ (bx *ℤ dx +ℤ by *ℤ dy)
    → ax +ℤ bx ≡ pos 0 → ay +ℤ by ≡ pos 0 → ga ≤ℤ pos 0 → gb ≤ℤ pos 0 → pos 0 ≤ℤ g
two-least e ga gb g ax ay bx by dx dy ha hb hx hy ka kb = nonneg_by (e ∷ ga ∷ gb ∷ g ∷ ax ∷ ay ∷ bx ∷ by ∷ dx ∷ dy ∷ []) (pos 2) positive_two
    (sq e ⊠ (le ka ⊞ le kb) ⊞ eq (pos 1) ha ⊞ eq (pos 1) hb ⊞ eq (pos 2 *ℤ dx) hx ⊞ eq (pos 2 *ℤ dy) hy) (search poly depth 30) tt

three-least : (e ga gb gc g ax ay bx by cx cy dx dy : ℤ) → (e *ℤ e) *ℤ ga +ℤ g ≡ pos 2 *ℤ (ax *ℤ dx +ℤ ay *ℤ dy)
    → (e *ℤ e) *ℤ gb +ℤ g ≡ pos 2 *ℤ (bx *ℤ dx +ℤ by *ℤ dy)
    → (e *ℤ e) *ℤ gc +ℤ g ≡ pos 2 *ℤ (cx *ℤ dx +ℤ cy *ℤ dy) → pos 0 <ℤ (ax *ℤ by -ℤ ay *ℤ bx) → pos 0 <ℤ (bx *ℤ cy -ℤ by *ℤ cx)
    → pos 0 <ℤ (cx *ℤ ay -ℤ cy *ℤ ax)
    → ga ≤ℤ pos 0 → gb ≤ℤ pos 0 → gc ≤ℤ pos 0 → pos 0 ≤ℤ g
three-least e ga gb gc g ax ay bx by cx cy dx dy ha hb hc wc wa wb ka kb kc =
    nonneg_by (e ∷ ga ∷ gb ∷ gc ∷ g ∷ ax ∷ ay ∷ bx ∷ by ∷ cx ∷ cy ∷ dx ∷ dy ∷ [])
    ((bx *ℤ cy -ℤ by *ℤ cx) +ℤ (cx *ℤ ay -ℤ cy *ℤ ax) +ℤ (ax *ℤ by -ℤ ay *ℤ bx)) (sum_positive (sum_positive wa wb) wc)
    (sq e ⊠ (le (≤_of_< wa) ⊠ le ka ⊞ le (≤_of_< wb) ⊠ le kb ⊞ le (≤_of_< wc) ⊠ le kc) ⊞ eq (bx *ℤ cy -ℤ by *ℤ cx) ha ⊞ eq (cx *ℤ ay -ℤ cy *ℤ ax) hb
    ⊞ eq (ax *ℤ by -ℤ ay *ℤ bx) hc) (search poly depth 30) tt
  where
    sum_positive : {a b : ℤ} → pos 0 <ℤ a → pos 0 <ℤ b → pos 0 <ℤ (a +ℤ b)
    sum_positive {a} {b} h k = positive (a ∷ b ∷ []) (lt h ⊞ lt k ⊞ nn 1) (search poly depth 30) tt

-- ---- one, two or three boundary points

boundary_feasible : {F : Lifted} {T : List Point} → pos 0 <ℤ F.e → ((p : Point) → In p T → value F p ≡ pos 0) → Feasible T [] F
boundary_feasible h r = record { proper = h; holds = λ p m. ≤_of_eq (r p m); on_boundary_is = λ p m. absurd (Memᴰ.not-nil m) }

module _ (F : Lifted) (proper : pos 0 <ℤ F.e) where
  pub one_strong : (a : Point) → value F a ≡ pos 0 → (arm F a).x ≡ pos 0 → (arm F a).y ≡ pos 0 → StronglyMinimal (a ∷ []) [] F
  one_strong a ha zx zy = record {
    feasible = boundary_feasible proper (also (λ p. value F p ≡ pos 0) ha (none_of (λ p. value F p ≡ pos 0)));
    least = λ G f. one-least F.e (value G a) (gap F G) (arm F a).x (arm F a).y (apart_x F G) (apart_y F G) (gap_boundary F G a ha) zx zy
        (f.holds a (Memᴰ.head refl));
  }

  pub two_strong : (a b : Point) → value F a ≡ pos 0 → value F b ≡ pos 0 → Opposite (arm F a) (arm F b) → StronglyMinimal (a ∷ b ∷ []) [] F
  two_strong a b ha hb o = record {
    feasible = boundary_feasible proper (also (λ p. value F p ≡ pos 0) ha (also (λ p. value F p ≡ pos 0) hb (none_of (λ p. value F p ≡ pos 0))));
    least = λ G f. two-least F.e (value G a) (value G b) (gap F G) (arm F a).x (arm F a).y (arm F b).x (arm F b).y (apart_x F G) (apart_y F G)
        (gap_boundary F G a ha) (gap_boundary F G b hb) o.0 o.1 (f.holds a (Memᴰ.head refl)) (f.holds b (Memᴰ.tail (Memᴰ.head refl)));
  }

  pub three_strong : (a b c : Point) → value F a ≡ pos 0 → value F b ≡ pos 0 → value F c ≡ pos 0
      → pos 0 <ℤ cross (arm F a) (arm F b) → pos 0 <ℤ cross (arm F b) (arm F c) → pos 0 <ℤ cross (arm F c) (arm F a)
      → StronglyMinimal (a ∷ b ∷ c ∷ []) [] F
  three_strong a b c ha hb hc wc wa wb = record {
    feasible = boundary_feasible proper
        (also (λ p. value F p ≡ pos 0) ha (also (λ p. value F p ≡ pos 0) hb (also (λ p. value F p ≡ pos 0) hc (none_of (λ p. value F p ≡ pos 0)))));
    least = λ G f. three-least F.e (value G a) (value G b) (value G c) (gap F G) (arm F a).x (arm F a).y (arm F b).x (arm F b).y (arm F c).x
        (arm F c).y (apart_x F G) (apart_y F G)
        (gap_boundary F G a ha) (gap_boundary F G b hb) (gap_boundary F G c hc) wc wa wb
        (f.holds a (Memᴰ.head refl)) (f.holds b (Memᴰ.tail (Memᴰ.head refl)))
        (f.holds c (Memᴰ.tail (Memᴰ.tail (Memᴰ.head refl))));
  }

-- ---- all boundary points to one side: the disk can be made smaller

abbrev tilt : Lifted → Point → Lifted
tilt F v = record { e = pos 0; cx = F.e *ℤ v.x; cy = F.e *ℤ v.y; k = pos 2 *ℤ (v.x *ℤ F.cx +ℤ v.y *ℤ F.cy) +ℤ pos 2 }

tilt_value : (F : Lifted) (v p : Point) → value (tilt F v) p ≡ pos 2 -ℤ pos 2 *ℤ dot v (arm F p)
tilt_value F v p = ring (F.e ∷ F.cx ∷ F.cy ∷ v.x ∷ v.y ∷ p.x ∷ p.y ∷ []) (search poly depth 30) tt

tilt_gap : (F : Lifted) (v : Point) → gap F (tilt F v) ≡ neg_ℤ (pos 2 *ℤ (F.e *ℤ F.e))
tilt_gap F v = ring (F.e ∷ F.cx ∷ F.cy ∷ F.k ∷ v.x ∷ v.y ∷ []) (search poly depth 30) tt

-- a factor large enough for every point of a list
abbrev enough : Lifted → List Point → ℤ
enough H [] = pos 1
enough H (p ∷ P) = value H p *ℤ value H p +ℤ enough H P

enough_positive : (H : Lifted) (P : List Point) → pos 0 <ℤ enough H P
enough_positive H [] = positive_one
enough_positive H (p ∷ P) = more_positive (value H p) (enough H P) (enough_positive H P)
  where
    more_positive : (t n : ℤ) → pos 0 <ℤ n → pos 0 <ℤ (t *ℤ t +ℤ n)
    more_positive t n h = positive (t ∷ n ∷ []) (sq t ⊞ lt h) (search poly depth 30) tt

enough_in : (H : Lifted) (P : List Point) (p : Point) → In p P → (value H p *ℤ value H p +ℤ pos 1) ≤ℤ enough H P
enough_in H [] p m = absurd (Memᴰ.not-nil m)
enough_in H (q ∷ P) p m = go (λ k. enough_in H P p k) (Memᴰ.cases_cons m)
  where
    here : (t n : ℤ) → pos 0 <ℤ n → (t *ℤ t +ℤ pos 1) ≤ℤ (t *ℤ t +ℤ n)
    here t n h = nonneg (t ∷ n ∷ []) (lt h) (search poly depth 30) tt

    later : (u t n : ℤ) → (u *ℤ u +ℤ pos 1) ≤ℤ n → (u *ℤ u +ℤ pos 1) ≤ℤ (t *ℤ t +ℤ n)
    later u t n h = nonneg (u ∷ t ∷ n ∷ []) (le h ⊞ sq t) (search poly depth 30) tt

    go : (In p P → (value H p *ℤ value H p +ℤ pos 1) ≤ℤ enough H P) → (p ≡ q) ⊎ In p P → (value H p *ℤ value H p +ℤ pos 1) ≤ℤ enough H (q ∷ P)
    go ih (inl e) = subst (λ (r : Point). (value H r *ℤ value H r +ℤ pos 1) ≤ℤ enough H (q ∷ P)) (sym e)
        (here (value H q) (enough H P) (enough_positive H P))
    go ih (inr k) = later (value H p) (value H q) (enough H P) (ih k)

nudge_boundary : (n v t d : ℤ) → v ≡ pos 0 → t ≡ pos 2 -ℤ pos 2 *ℤ d → pos 0 <ℤ d → (n *ℤ v +ℤ pos 1 *ℤ t) ≤ℤ pos 0
nudge_boundary n v t d hv ht hd = nonneg (n ∷ v ∷ t ∷ d ∷ []) (nn 2 ⊠ lt hd ⊞ eq (neg_ℤ n) hv ⊞ eq (negsuc 0) ht) (search poly depth 30) tt

nudge_inner : (n v t : ℤ) → v <ℤ pos 0 → (t *ℤ t +ℤ pos 1) ≤ℤ n → pos 0 <ℤ n → (n *ℤ v +ℤ pos 1 *ℤ t) ≤ℤ pos 0
nudge_inner n v t hv hn hp = nonneg_by (n ∷ v ∷ t ∷ []) (pos 2) positive_two (nn 2 ⊠ (le (≤_of_< hp) ⊠ lt hv) ⊞ nn 2 ⊠ le hn ⊞ sq (t -ℤ pos 1) ⊞ sq t
    ⊞ nn 1) (search poly depth 30) tt

pub no_side : {P : List Point} {F : Lifted} → StronglyMinimal P [] F → (v : Point)
    → ((p : Point) → In p P → value F p ≡ pos 0 → pos 0 <ℤ dot v (arm F p)) → ⊥
no_side {P} {F} m v h = worse F.e m.feasible.proper (subst (λ (z : ℤ). pos 0 ≤ℤ z) smaller (m.least nudged feasible))
  where
    n : ℤ
    n = enough (tilt F v) P

    nudged : Lifted
    nudged = combine n F (pos 1) (tilt F v)

    smaller : gap F nudged ≡ n *ℤ pos 0 +ℤ pos 1 *ℤ neg_ℤ (pos 2 *ℤ (F.e *ℤ F.e))
    smaller = gap_combine F n F (pos 1) (tilt F v) ∙ ap (λ (z : ℤ). n *ℤ z +ℤ pos 1 *ℤ gap F (tilt F v)) (gap_self F)
        ∙ ap (λ (z : ℤ). n *ℤ pos 0 +ℤ pos 1 *ℤ z) (tilt_gap F v)

    at : (p : Point) → In p P → Compared (value F p) (pos 0) → (n *ℤ value F p +ℤ pos 1 *ℤ value (tilt F v) p) ≤ℤ pos 0
    at p i (less k) = nudge_inner n (value F p) (value (tilt F v) p) k (enough_in (tilt F v) P p i) (enough_positive (tilt F v) P)
    at p i (same k) = nudge_boundary n (value F p) (value (tilt F v) p) (dot v (arm F p)) k (tilt_value F v p) (h p i k)
    at p i (more k) = <-≤_clash k (m.feasible.holds p i)

    weight : (n e : ℤ) → pos 0 <ℤ n → pos 0 <ℤ e → pos 0 <ℤ (n *ℤ e +ℤ pos 1 *ℤ pos 0)
    weight n e hn he = positive (n ∷ e ∷ []) (lt hn ⊠ lt he ⊞ lt hn ⊞ lt he) (search poly depth 30) tt

    feasible : Feasible P [] nudged
    feasible = record {
      proper = weight n F.e (enough_positive (tilt F v) P) m.feasible.proper;
      holds = λ p i. subst (λ (z : ℤ). z ≤ℤ pos 0) (sym (value_combine n F (pos 1) (tilt F v) p)) (at p i (compared (value F p) (pos 0)));
      on_boundary_is = λ p i. absurd (Memᴰ.not-nil i);
    }

    worse : (e : ℤ) → pos 0 <ℤ e → pos 0 ≤ℤ (n *ℤ pos 0 +ℤ pos 1 *ℤ neg_ℤ (pos 2 *ℤ (e *ℤ e))) → ⊥
    worse e he k = clash (n ∷ e ∷ []) (k ⊞ nn 2 ⊠ (lt he ⊠ lt he) ⊞ nn 4 ⊠ lt he ⊞ nn 1) (search poly depth 30) tt
