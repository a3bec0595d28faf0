-- Points and disks of the plane (01, "What the engine holds", "Disk and rim").
--
--   Disk            == a disk: the whole numbers X, Y, E and S
--   numbers d       == those of a disk as the calls hold it, with S in two words (02, item 10: "S no longer fits 64 bits")
--   distance d p    == (xE − X)² + (yE − Y)², the squared distance of p from d's centre times E²
--   holds d p       == d holds p: the distance is at most S
--   on_boundary d p  == p is on d's boundary (01: on the rim): the distance is S
--   members t       == the points of a support set (01: the answer is one corner, two or three)
use Rattle.std.specs.Prelude.{Bool, List, [], ◌∷◌, ◌≡◌, ℕ, ℤ, pos, ◌+ℤ◌, ◌-ℤ◌, ◌*ℤ◌}
use Rattle.std.specs.Int.Signed.{le_z}
use Rattle.wide_numbers.specs.Value.{value}
use Rattle.geometry.specs.declared.Point.{Point}
use Rattle.geometry.specs.declared.Disk.{Disk as MachineDisk}
use Rattle.geometry.specs.declared.SupportSet.{SupportSet}
use Rattle.geometry.specs.declared.SupportSet.TheVariants.{One, Two, Three}

-- centre (x/e, y/e), squared radius s/e²
pub record Disk : Type 0 where
  pub x : ℤ
  pub y : ℤ
  pub e : ℕ
  pub s : ℕ

abbrev pub numbers : MachineDisk → Disk
numbers d = record { x = d.x; y = d.y; e = d.e; s = value d.s }

abbrev pub distance : Disk → Point → ℤ
distance d p =
    (p.x *ℤ pos d.e -ℤ d.x) *ℤ (p.x *ℤ pos d.e -ℤ d.x)
    +ℤ (p.y *ℤ pos d.e -ℤ d.y) *ℤ (p.y *ℤ pos d.e -ℤ d.y)

unfoldable pub holds : Disk → Point → Bool
holds d p = le_z (distance d p) (pos d.s)

abbrev pub on_boundary : Disk → Point → Type 0
on_boundary d p = distance d p ≡ pos d.s

abbrev pub members : SupportSet → List Point
members (One a) = a ∷ []
members (Two a b) = a ∷ b ∷ []
members (Three a b c) = a ∷ b ∷ c ∷ []
