-- Document 02, item 7 holds (specs/TracedPoints.antt).
--
--   over, only_over : the disk of the corners is the smallest over all tracings of at least one traced point, and no other is
--   kept_plain, plain_kept : with every t zero the engine's rules for the points as they were read are those for the traced points
--   traced-points   : TracedPoints
use mathlib.Core.Path.{◌≡◌, refl, sym, ◌∙◌, ap, subst}
use mathlib.Core.Logic.{◌⊎◌, inl, inr}
use mathlib.Core.List.Memᴰ
use mathlib.Core.List.{List, [], ◌∷◌, Memᴰ}
use Prim.Native.Nat.{ℕ, ◌*◌, ◌%◌, ◌≤◌}
use native.Mathlib.Omega.{arith}
use lib.Dec.{T}
use lib.IntN.{ℤ, pos}
use lib.ListN.{length}
use lib.Signed.{◌≤ℤ◌}
use Rattle.answers.specs.Outcome.{Outcome, given, refused, and_then}
use Rattle.answers.proofs.OutcomeLaws.{not_given}
use Rattle.geometry.specs.declared.Point.{Point}
use Rattle.geometry.specs.Plane.{Disk}
use Rattle.geometry.specs.EmBox.{em, Inside, in_em_box, WithinLimits}
use Rattle.geometry.specs.Points.{points, flat}
use Rattle.geometry.proofs.PointLists.{length-flat, points_of_flat}
use Rattle.point_lists.specs.Sets.{In}
use Rattle.disks.specs.Procedure.{disk_of}
use Rattle.disks.proofs.Welzl.{disk_same}
use Rattle.disks.proofs.Answer.{em_square, limits}
use Rattle.engine.specs.Engine.{Enclosure, enclose_of}
use Rattle.engine.proofs.Accepted.{accepted_list}
use Rattle.tracings.specs.declared.TracedPoint.{TracedPoint}
use Rattle.tracings.specs.Squares.{traced, corners, all_corners, place, as_read}
use Rattle.tracings.specs.Tracings.{SmallestOver}
use Rattle.tracings.proofs.Convex.{NoneNegative}
use Rattle.tracings.proofs.Boxes.{places_in, corners_in}
use Rattle.tracings.proofs.Smallest.{smallest_over, only_smallest, Exact, corners-place, place_corner, read_same}
use Rattle.square_corners.proofs.FourCorners.{corners-boxed}
use Rattle.traced_points.specs.Traced.{traced_of}
use Rattle.traced_points.proofs.Checks as checks
use Rattle.rules.specs.Row.{DueFirst, AllKept}
use Rattle.rules.specs.Rules.{engine_row, point_row, traced_row}
use Rattle.rules.proofs.Calls as calls
use Rattle.requests.specs.TracedPoints.{TracedPoints}

-- ---- the smallest disk

over : (ss : List TracedPoint) → 1 ≤ length ss → NoneNegative ss → SmallestOver ss (disk_of (all_corners ss))
over [] h n = absurd (omega arith)
over (s ∷ ss) h n = smallest_over s ss n

only_over : (ss : List TracedPoint) → 1 ≤ length ss → NoneNegative ss → {d : Disk} → SmallestOver ss d → d ≡ disk_of (all_corners ss)
only_over [] h n m = absurd (omega arith)
only_over (s ∷ ss) h n m = only_smallest s ss n m

corner_limits : (ss : List TracedPoint) → 1 ≤ length ss → ((p : Point) → In p (all_corners ss) → T (in_em_box p)) → WithinLimits em (disk_of (all_corners ss))
unfolding corners all_corners
corner_limits [] h f = absurd (omega arith)
corner_limits (s ∷ ss) h f = limits em em_square _ _ f

module _ (l : List ℤ) where
  abbrev ss : List TracedPoint
  ss = traced l

  none_negative : AllKept (traced_row l) → NoneNegative ss
  none_negative k s i = (k.1.1.1.0 s i).0.0

  module _ {d : Disk} (h : traced_of l ≡ given d) where
    kept : AllKept (traced_row l)
    kept = (calls.traced l).taken.0 (d, h)

    is_disk : d ≡ disk_of (all_corners ss)
    is_disk = (checks.accepted_list l d h).1

    is_smallest : SmallestOver ss d
    is_smallest = subst (SmallestOver ss) (sym is_disk) (over ss kept.1.0 (none_negative kept))

    within_limits : WithinLimits em d
    within_limits =
        let each = (checks.accepted_list l d h).0.each in
        subst (WithinLimits em) (sym is_disk) (corner_limits ss kept.1.0 (corners-boxed ss (λ s i. (each s i).boxed)))

  smallest_given : {d : Disk} → AllKept (traced_row l) → SmallestOver ss d → traced_of l ≡ given d
  smallest_given k m =
      let (c, h) = (calls.traced l).taken.1 k in
      h ∙ ap given (is_disk h ∙ sym (only_over ss k.1.0 (none_negative k) m))

-- ---- with every t zero

in_range : (t : ℤ) → t ≡ pos 0 → (pos 0 ≤ℤ t) × (t ≤ℤ pos 50)
in_range t e = rw e (record { le = tt }, record { le = tt })

module _ (l : List ℤ) (threes : length l % 3 ≡ 0) (few : length (traced l) ≤ 1024) (exact : Exact (traced l)) where
  abbrev P : List Point
  P = as_read (traced l)

  read_length : (ss : List TracedPoint) → length (as_read ss) ≡ length ss
  read_length [] = refl
  read_length (s ∷ ss) = omega (arith, read_length ss)

  as_many : length (points (flat P)) ≡ length (traced l)
  as_many = ap length (points_of_flat P) ∙ read_length (traced l)

  even : length (flat P) % 2 ≡ 0
  even = by (length P) (length-flat P)
    where
      by : {n : ℕ} (m : ℕ) → n ≡ 2 * m → n % 2 ≡ 0
      by m e = omega arith

  kept_plain : AllKept (traced_row l) → AllKept (engine_row (flat P))
  kept_plain k = (even, (subst (λ (n : ℕ). 1 ≤ n) (sym as_many) k.1.0, (subst (λ (n : ℕ). n ≤ 4096) (sym as_many) (omega arith), (boxed, tt))))
    where
      boxed : (p : Point) → In p (points (flat P)) → Inside em p
      boxed p i =
          let (s, m, e) = Memᴰ.of_map place (traced l) (subst (In p) (points_of_flat P) i) in
          subst (Inside em) e ((k.1.1.1.0 s m).1.0 (place s) (place_corner s (exact s m)))

  plain_kept : AllKept (engine_row (flat P)) → AllKept (traced_row l)
  plain_kept k = (threes, (subst (λ (n : ℕ). 1 ≤ n) as_many k.1.0, (few, (each, tt))))
    where
      each : (s : TracedPoint) → Memᴰ s (traced l) → AllKept (point_row s)
      each s m =
          let here = k.1.1.1.0 (place s) (subst (In (place s)) (sym (points_of_flat P)) (Memᴰ.map place m)) in
          (in_range s.t (exact s m), ((λ p i. subst (Inside em) (sym (corners-place s (exact s m) p i)) here), tt))

  -- which numbers can be due: 5 where there is no traced point, else 3
  abbrev Number : ℕ → Type 0
  Number n = ((1 ≤ length (traced l) → ⊥) × (n ≡ 5)) ⊎ ((1 ≤ length (traced l)) × (n ≡ 3))

  traced-number : {n : ℕ} → DueFirst (traced_row l) n → Number n
  traced-number (inl d) = absurd (d.0 threes)
  traced-number (inr (k, inl d)) = inl d
  traced-number (inr (k, inr (j, inl d))) = absurd (d.0 few)
  traced-number {n} (inr (k, inr (j, inr (i, inl f)))) = inr (j, three f.due)
    where
      there : Memᴰ f.item (traced l)
      there = subst (Memᴰ f.item) (sym f.parted) (Memᴰ.append_right f.front (Memᴰ.head refl))

      three : DueFirst (point_row f.item) n → n ≡ 3
      three (inl d) = absurd (d.0 (in_range f.item.t (exact f.item there)))
      three (inr (r, inl d)) = d.1
      three (inr (r, inr d)) = absurd d.1
  traced-number (inr (k, inr (j, inr (i, inr d)))) = absurd d.1

  engine_number : {n : ℕ} → DueFirst (engine_row (flat P)) n → Number n
  engine_number (inl d) = absurd (d.0 even)
  engine_number (inr (k, inl d)) = inl ((λ h. d.0 (subst (λ (n : ℕ). 1 ≤ n) (sym as_many) h)), d.1)
  engine_number (inr (k, inr (j, inl d))) = absurd (d.0 (subst (λ (n : ℕ). n ≤ 4096) (sym as_many) (omega arith)))
  engine_number (inr (k, inr (j, inr (i, inl d)))) = inr (subst (λ (n : ℕ). 1 ≤ n) as_many j, d.1)
  engine_number (inr (k, inr (j, inr (i, inr d)))) = absurd d.1

  one_number : {n m : ℕ} → Number n → Number m → n ≡ m
  one_number (inl a) (inl b) = a.1 ∙ sym b.1
  one_number (inl a) (inr b) = absurd (a.0 b.0)
  one_number (inr a) (inl b) = absurd (b.0 a.0)
  one_number (inr a) (inr b) = a.1 ∙ sym b.1

  plainly : traced_of l ≡ and_then (enclose_of (flat P)) (λ e. given e.disk)
  plainly = go (traced_of l) (enclose_of (flat P)) refl refl
    where
      go : (o : Outcome Disk) (q : Outcome Enclosure) → traced_of l ≡ o → enclose_of (flat P) ≡ q → o ≡ and_then q (λ e. given e.disk)
      go (given d) (given e) h k =
          let engine : e.disk ≡ disk_of (points (flat P)) = ap (λ (a : Enclosure). a.disk) (accepted_list (flat P) e k).answer in
          ap given (is_disk l h ∙ disk_same (all_corners (traced l)) P (read_same (traced l) exact) ∙ ap disk_of (sym (points_of_flat P)) ∙ sym engine)
      go (given d) (refused n) h k =
          let (e, i) = (calls.engine (flat P)).taken.1 (kept_plain (kept l h)) in
          absurd (not_given (sym k ∙ i))
      go (refused m) (given e) h k =
          let (d, i) = (calls.traced l).taken.1 (plain_kept ((calls.engine (flat P)).taken.0 (e, k))) in
          absurd (not_given (sym h ∙ i))
      go (refused m) (refused n) h k =
          ap refused (one_number (traced-number (((calls.traced l).refusal m).0 h)) (engine_number (((calls.engine (flat P)).refusal n).0 k)))

pub traced-points : TracedPoints
traced-points = record {
  smallest = λ l d. ((λ h. (kept l h, is_smallest l h)), (λ a. smallest_given l a.0 a.1));
  in_box = λ s h. (places_in em s, corners_in em s h);
  plain = plainly;
  limits = λ l d h. within_limits l h;
}
