-- When points belong to a disk (02, item 9: "the smallest disk of the named corners is the disk, and with any one of them left out it is another or
-- none").
--
--   is_disk_of d ps   == the smallest disk of ps is d; no points have none
--   left_out ps      == ps with its first point left out, then with its second, and so on
--   none_has d ls    == of none of the lists ls the smallest disk is d
--   belongs d ps    == the sentence, as a test
--   Belong d ps     == the sentence, as a property over the smallest disk of demand 2 (proofs/Meaning.antt: the test holds where and only where this does)
use Rattle.std.specs.Prelude.{◌≡◌, Bool, true, false, not, ◌&&◌, List, [], ◌∷◌, ◌++◌}
use Rattle.geometry.specs.declared.Point.{Point}
use Rattle.geometry.specs.Plane.{Disk}
use Rattle.disks.specs.Smallest.{Smallest}
use Rattle.disks.specs.Procedure.{disk_of}
use Rattle.disks.specs.Support.{same_disk, fronted}

unfoldable pub is_disk_of : Disk → List Point → Bool
is_disk_of d [] = false
is_disk_of d (p ∷ ps) = same_disk (disk_of (p ∷ ps)) d

unfoldable pub left_out : List Point → List (List Point)
left_out [] = []
left_out (p ∷ ps) = ps ∷ fronted p (left_out ps)

unfoldable pub none_has : Disk → List (List Point) → Bool
none_has d [] = true
none_has d (qs ∷ rest) = not (is_disk_of d qs) && none_has d rest

unfoldable pub belongs : Disk → List Point → Bool
belongs d ps = is_disk_of d ps && none_has d (left_out ps)

pub record Belong (d : Disk) (ps : List Point) : Type 0 where
  -- "the smallest disk of the named corners is the disk"
  pub own : Smallest ps d
  -- "and with any one of them left out it is another or none"
  pub needed : (front : List Point) (p : Point) (back : List Point) → ps ≡ front ++ (p ∷ back) → Smallest (front ++ back) d → ⊥
