-- Document 02, item 9: records whose points do not fit, over the definitions that the contracts of the public calls cite. That each of the four calls gives
-- 15 exactly where the points do not belong to the disk and no other number is due before is claimed with the other refusals (claims/specs/Demand1.antt, by
-- `disk_row`, `writer_row` and `reader_row`). Shown in proofs/FittingPoints.antt.
--
--   Unfit d ps      == reader, writer, whole radius and preview refuse the disk d with the points ps as 15, and a buffer is left as it was
--   Fixing d ps     == d is the smallest disk of ps, and ps are the only set that fixes it, none of them spare; the engine's answer for ps alone is d and ps
--   FittingPoints   == all that item 9 says
--
-- `Belong d ps` (belonging/specs/Belonging.antt): ps belong to d, which is the item's sentence over the smallest disk of demand 2.
-- `on_boundary_test`, `opposite`, `acute` (support_tests/specs/Tests.antt): these tests of coordinates.
-- `WorkedOut l bs` (claims/specs/Demand3.antt): bs is a record worked out for the accepted list l.
use Rattle.std.specs.Prelude.{◌≡◌, ◌↔◌, ◌⊎◌, true, ◌&&◌, List, [], ◌∷◌, ◌++◌, ℕ, ◌≤◌, eqb, ℤ, length}
use Rattle.answers.specs.Outcome.{given, refused}
use Rattle.geometry.specs.declared.Point.{Point}
use Rattle.geometry.specs.Plane.{Disk}
use Rattle.geometry.specs.Points.{flat}
use Rattle.disks.specs.Smallest.{Smallest}
use Rattle.disks.specs.FirstSupport.{IsSupport, IsFirstSupport}
use Rattle.support_tests.specs.Tests.{on_boundary_test, opposite, acute}
use Rattle.engine.specs.Engine.{Enclosure, enclose_of}
use Rattle.belonging.specs.Belonging.{belongs, Belong}
use Rattle.radius.specs.Radius.{radius_of}
use Rattle.record_writer.specs.Bytes.{record_bytes}
use Rattle.record_writer.specs.Writing.{write_of, buffer_after}
use Rattle.record_reader.specs.Reading.{read_of}
use Rattle.preview.specs.Preview.{preview_of}
use Rattle.rules.specs.Rules.{Bytes, Recordable}
use Rattle.claims.specs.Demand3.{Answers, worked, WorkedOut}

pub record Unfit (d : Disk) (ps : List Point) : Type 0 where
  pub reader : read_of (record_bytes d ps) ≡ refused 15
  pub writer : (b : List ℕ) → 53 ≤ length b → (write_of d ps b ≡ refused 15) × (buffer_after d ps b ≡ b)
  pub radius : radius_of d ps ≡ refused 15
  pub preview : preview_of d ps ≡ refused 15

pub record Fixing (d : Disk) (ps : List Point) : Type 0 where
  pub smallest : Smallest ps d
  pub first_support_is : IsFirstSupport ps ps
  pub no_other_support : (S : List Point) → IsSupport ps S → S ≡ ps
  pub answer : Enclosure
  pub accepted : enclose_of (flat ps) ≡ given answer
  pub disk_is : answer.disk ≡ d
  pub support_is : answer.support ≡ ps

pub record FittingPoints : Type 0 where
  -- "the smallest disk of the named corners is the disk, and with any one of them left out it is another or none": what the calls' definitions test
  pub tested : (d : Disk) (ps : List Point) → (belongs d ps ≡ true) ↔ Belong d ps
  -- "another or none": without one of them the points have another smallest disk, or no point is left; and of no points there is none
  pub another_or_none :
      (d : Disk) (ps : List Point) → Belong d ps
      → (front : List Point) (p : Point) (back : List Point) → ps ≡ front ++ (p ∷ back)
      → ((c : Disk) × Smallest (front ++ back) c × (c ≡ d → ⊥)) ⊎ (front ++ back ≡ [])
  pub none : (d : Disk) → Smallest [] d → ⊥
  -- so points belong to one disk at most
  pub one_disk : (d c : Disk) (ps : List Point) → Belong d ps → Belong c ps → d ≡ c
  -- and of what a valid record can hold, one point is the disk itself, two are the ends of a diameter, three are on the boundary with acute angles only
  pub one : (d : Disk) (a : Point) → Recordable d (a ∷ []) → belongs d (a ∷ []) ≡ (on_boundary_test d a && eqb d.s 0)
  pub two : (d : Disk) (a b : Point) → Recordable d (a ∷ b ∷ []) → belongs d (a ∷ b ∷ []) ≡ (on_boundary_test d a && opposite d a b)
  pub three :
      (d : Disk) (a b c : Point) → Recordable d (a ∷ b ∷ c ∷ [])
      → belongs d (a ∷ b ∷ c ∷ []) ≡ (on_boundary_test d a && (on_boundary_test d b && (on_boundary_test d c && acute a b c)))
  -- "Reader, writer, cutting radius and preview now test it: .. 15 when it fails"
  pub fails : (d : Disk) (ps : List Point) → Recordable d ps → (Belong d ps → ⊥) → Unfit d ps
  -- "Every record made from a letter still passes.": the engine's points belong to its disk; a record worked out is read as these, from a description too
  pub engine : (l : List ℤ) (e : Enclosure) → enclose_of l ≡ given e → Belong e.disk e.support
  pub letter : (l : List ℤ) (bs : List ℕ) (w : WorkedOut l bs) → read_of bs ≡ given (w.answer.disk, w.answer.support)
  pub description :
      (t : List ℕ) (l : List ℤ) (b : List ℕ) (a : Answers) → worked t l b ≡ given a → read_of a.bytes ≡ given (a.disk_given, a.support)
  -- and no other does: 53 bytes that the reader takes are the record worked out for the named points alone
  pub records :
      (bs : List ℕ) → Bytes bs → length bs ≡ 53 → (d : Disk) (ps : List Point)
      → (read_of bs ≡ given (d, ps)) ↔ ((w : WorkedOut (flat ps) bs) × (w.answer.disk ≡ d) × (w.answer.support ≡ ps))
  -- "Presses trusted that a record's corners belong to its disk.": a record that is read names a smallest disk and a set that fixes it, with no spare point;
  -- so do the disk and points that the other calls take
  pub taken : (d : Disk) (ps : List Point) → Recordable d ps → Belong d ps → Fixing d ps
  pub named : (bs : List ℕ) (d : Disk) (ps : List Point) → read_of bs ≡ given (d, ps) → Fixing d ps
