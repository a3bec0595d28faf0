-- A disk as C has it: S in two words.
--
--   words n     == n in two words: how often it has 2^64, and what is left
--   in_words d   == the disk d with S in two words
--   no_disk      == what stands beside a refusal in place of a disk
use Rattle.std.specs.Prelude.{ℕ, ◌/◌, ◌%◌, ◌^◌, pos}
use Rattle.wide_numbers.specs.declared.Wide.{Wide}
use Rattle.geometry.specs.declared.Disk.{Disk as MachineDisk}
use Rattle.geometry.specs.Plane.{Disk}

abbrev pub words : ℕ → Wide
words n = record { hi = n / 2 ^ 64; lo = n % 2 ^ 64 }

abbrev pub in_words : Disk → MachineDisk
in_words d = record { x = d.x; y = d.y; e = d.e; s = words d.s }

abbrev pub no_disk : MachineDisk
no_disk = record { x = pos 0; y = pos 0; e = 0; s = record { hi = 0; lo = 0 } }
