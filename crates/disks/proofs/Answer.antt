-- The disk of a list of points of a square keeps to the square's limits, so that of points of the em box keeps document 01's.
--
--   side l       == the side of the box
--   Square l     == the box is a square, the largest E is twice its area, and the largest S/E² half of it
--   em_square    : so it is with the em box
--   in_square    : a point of the box, in the terms of Limits.antt
--   no_more      : in lowest terms a limit is kept too
--   weight       : E of the lifted disk is at most the largest E
--   limits       : WithinLimits l (diskOf P), for every P of at least one point, all in the box
use mathlib.Core.Path.{◌≡◌, refl, sym, subst}
use mathlib.Core.List.{List, [], ◌∷◌}
use Prim.Native.Nat.{ℕ}
use lib.Dec.{T}
use lib.IntN.{ℤ, pos, negsuc, neg_ℤ, ◌+ℤ◌, ◌-ℤ◌, ◌*ℤ◌}
use lib.Signed.{◌≤ℤ◌, ◌<ℤ◌}
use Rattle.integers.proofs.Tests.{test_true}
use Rattle.integers.proofs.Ring.{poly}
use Rattle.integers.proofs.Order.{*-pos, le_pos, nonneg, nonneg_by, lt, le, eq, nn, ◌⊞◌, ◌⊠◌}
use Rattle.geometry.specs.declared.Point.{Point}
use Rattle.geometry.specs.declared.Limits.{Limits}
use Rattle.geometry.specs.EmBox.{em, in_box, WithinLimits}
use Rattle.geometry.proofs.EmBox.{inside}
use Rattle.point_lists.specs.Sets.{In}
use Rattle.point_lists.proofs.Sets.{none_of}
use Rattle.disks.specs.Procedure.{disk_of}
use Rattle.disks.proofs.Lifted.{Lifted, squared_radius}
use Rattle.disks.proofs.BoxLimits.{Box, BoxLimits, box_limits}
use Rattle.disks.proofs.Base.{positive_two}
use Rattle.disks.proofs.RunWeight.{run_weight}
use Rattle.disks.proofs.LiftedProcedure.{lifted_mtf}
use Rattle.disks.proofs.Correct.{mtf_strong}
use Rattle.disks.proofs.LowestTerms.{lowered, Written, square_factor}
use Rattle.disks.proofs.StrongSmallest.{some_positive}
use Rattle.disks.proofs.Bridge.{strong_written, disk_of_lowered}

-- ---- divided by a common factor

low : (a g C E c e : ℤ) → pos 0 <ℤ g → C ≡ g *ℤ c → E ≡ g *ℤ e → (a *ℤ E) ≤ℤ C → (a *ℤ e) ≤ℤ c
low a g C E c e hg hc he h = nonneg_by (a ∷ g ∷ C ∷ E ∷ c ∷ e ∷ []) g hg (le h ⊞ eq (negsuc 0) hc ⊞ eq a he) (search poly depth 30) tt

high : (a g C E c e : ℤ) → pos 0 <ℤ g → C ≡ g *ℤ c → E ≡ g *ℤ e → C ≤ℤ (a *ℤ E) → c ≤ℤ (a *ℤ e)
high a g C E c e hg hc he h = nonneg_by (a ∷ g ∷ C ∷ E ∷ c ∷ e ∷ []) g hg (le h ⊞ eq (pos 1) hc ⊞ eq (neg_ℤ a) he) (search poly depth 30) tt

square_high : (a g S E s e : ℤ) → pos 0 <ℤ (g *ℤ g) → S ≡ (g *ℤ g) *ℤ s → E ≡ g *ℤ e → (S *ℤ pos 2) ≤ℤ ((pos 2 *ℤ a) *ℤ (E *ℤ E))
    → s ≤ℤ (a *ℤ (e *ℤ e))
square_high a g S E s e hg hs he h = nonneg_by (a ∷ g ∷ S ∷ E ∷ s ∷ e ∷ []) ((g *ℤ g) *ℤ pos 2) (*-pos hg positive_two)
    (le h ⊞ eq (pos 2) hs ⊞ eq (neg_ℤ ((pos 2 *ℤ a) *ℤ (E +ℤ g *ℤ e))) he) (search poly depth 30) tt

pub no_more : (n g E : ℤ) (e : ℕ) → pos 0 <ℤ g → E ≡ g *ℤ pos e → E ≤ℤ n → pos e ≤ℤ n
no_more n g E e hg he h = nonneg (n ∷ g ∷ E ∷ pos e ∷ []) (le h ⊞ lt hg ⊠ nn e ⊞ eq (pos 1) he) (search poly depth 30) tt

-- ---- the box

abbrev pub side : Limits → ℤ
side l = l.right -ℤ l.left

pub record Square (l : Limits) : Type 0 where
  pub some : pos 0 <ℤ side l
  pub right_is : l.left +ℤ side l ≡ l.right
  pub top_is : l.foot +ℤ side l ≡ l.top
  pub scale_is : pos 2 *ℤ (side l *ℤ side l) ≡ pos l.scale
  pub square_is : side l *ℤ side l ≡ pos 2 *ℤ pos l.square

-- the one place where the em box's figures are computed with
pub em_square : Square em
em_square = record { some = record { lt = tt }; right_is = refl; top_is = refl; scale_is = refl; square_is = refl }

module _ (l : Limits) (sq : Square l) where
  abbrev InSquare : Point → Type 0
  InSquare p = Box l.left l.foot (side l) p

  pub in_square : (p : Point) → T (in_box l p) → InSquare p
  in_square p t =
      let i = inside l p (test_true (in_box l p) t) in
      record {
        left = i.from_left;
        right = subst (λ (z : ℤ). p.x ≤ℤ z) (sym sq.right_is) i.to_right;
        low = i.from_foot;
        high = subst (λ (z : ℤ). p.y ≤ℤ z) (sym sq.top_is) i.to_top;
      }

  module _ (p : Point) (P : List Point) (all_inside : (q : Point) → In q (p ∷ P) → T (in_box l q)) where
    abbrev pub F : Lifted
    F = (lifted_mtf (p ∷ P)).disk

    boxed : (q : Point) → In q (p ∷ P) → InSquare q
    boxed q i = in_square q (all_inside q i)

    pub weight : F.e ≤ℤ pos l.scale
    weight = subst (λ (z : ℤ). F.e ≤ℤ z) sq.scale_is (run_weight l.left l.foot (side l) sq.some 3 [] (p ∷ P) (none_of InSquare) boxed).weight

    pub centre_limits : BoxLimits l.left l.foot (side l) F
    centre_limits = box_limits l.left l.foot (side l) (mtf_strong p P) boxed

    lowered_limits : Written F (lowered F) → WithinLimits l (lowered F)
    lowered_limits w = record {
      e_most = le_pos (no_more (pos l.scale) (pos w.g) F.e (lowered F).e factor w.e_is weight);
      s_most = le_pos (square_high (pos l.square) (pos w.g) (squared_radius F) F.e (pos (lowered F).s) (pos (lowered F).e) (square_factor w)
          w.s_is w.e_is (subst (λ (z : ℤ). (squared_radius F *ℤ pos 2) ≤ℤ (z *ℤ (F.e *ℤ F.e))) sq.square_is b.radius));
      x_low = low l.left (pos w.g) F.cx F.e (lowered F).x (pos (lowered F).e) factor w.x_is w.e_is b.x_low;
      x_high = high l.right (pos w.g) F.cx F.e (lowered F).x (pos (lowered F).e) factor w.x_is w.e_is
          (subst (λ (z : ℤ). F.cx ≤ℤ (z *ℤ F.e)) sq.right_is b.x_high);
      y_low = low l.foot (pos w.g) F.cy F.e (lowered F).y (pos (lowered F).e) factor w.y_is w.e_is b.y_low;
      y_high = high l.top (pos w.g) F.cy F.e (lowered F).y (pos (lowered F).e) factor w.y_is w.e_is
          (subst (λ (z : ℤ). F.cy ≤ℤ (z *ℤ F.e)) sq.top_is b.y_high);
    }
      where
        factor : pos 0 <ℤ pos w.g
        factor = some_positive w.g_some

        b : BoxLimits l.left l.foot (side l) F
        b = centre_limits

    pub limits : WithinLimits l (disk_of (p ∷ P))
    limits = subst (WithinLimits l) (sym (disk_of_lowered p P)) (lowered_limits (strong_written (mtf_strong p P)))
