-- The whole way, from the bytes of a description to the meaning of each answer, and what the tests that claims use mean.
-- Shown in proofs/Whole.antt.
--
--   AnswersMean t a   == the answers a are those of the set of points that the description t names
--   WholeWay          == the calls one after another give these answers, for every description that breaks no rule
--   RecordOf          == `volkhidar_record_of`, whose definition is `letter_in`, answers and writes what these calls do
--   TestsMean         == `holds` and `before` as inequalities
use Rattle.std.specs.Prelude.{◌≡◌, ◌↔◌, ◌⊎◌, List, [], ◌∷◌, ◌++◌, ℕ, ◌≤◌, T, ℤ, pos, length, drop}
use Rattle.answers.specs.Outcome.{given, refused}
use Rattle.integers.specs.Order.{◌≼◌, ◌≺◌}
use Rattle.geometry.specs.declared.Point.{Point}
use Rattle.geometry.specs.Plane.{Disk, distance, holds}
use Rattle.geometry.specs.Order.{before}
use Rattle.disks.specs.Smallest.{Smallest}
use Rattle.disks.specs.Procedure.{mtf}
use Rattle.disks.specs.FirstSupport.{IsFirstSupport}
use Rattle.description.specs.Description.{named, room}
use Rattle.record_writer.specs.Layout.{record_length}
use Rattle.record_writer.specs.Bytes.{record_bytes}
use Rattle.preview.specs.declared.Preview.{Preview}
use Rattle.letter.specs.Letter.{Letter, letter_in, buffer_after}
use Rattle.rules.specs.Row.{◌unless◌, GoesBy}
use Rattle.rules.specs.Rules.{loader_row}
use Rattle.claims.specs.Values.{LeastRadius, PreviewIsRight, bits}
use Rattle.claims.specs.Demand3.{Answers, worked}

pub record AnswersMean (t : List ℕ) (a : Answers) : Type 0 where
  pub smallest : Smallest (named t) a.disk_given
  pub first_support_is : IsFirstSupport (named t) a.support
  pub least : LeastRadius a.disk_given a.radius
  pub preview : Preview
  pub preview_right : PreviewIsRight a.disk_given preview
  pub preview_bits : a.shown ≡ bits preview
  pub record_bytes_are : a.bytes ≡ record_bytes a.disk_given a.support

pub record WholeWay : Type 0 where
  -- the loader's rules, then 8 for the writer's buffer: no call between them refuses
  pub refusal : (t : List ℕ) (l : List ℤ) (b : List ℕ) → GoesBy (loader_row t l ++ (8 unless (record_length ≤ length b) ∷ [])) (worked t l b)
  pub means : (t : List ℕ) (l : List ℤ) (b : List ℕ) (a : Answers) → worked t l b ≡ given a → AnswersMean t a
  -- nothing else is their meaning
  pub only : (t : List ℕ) (l : List ℤ) (b : List ℕ) (a c : Answers) → worked t l b ≡ given a → AnswersMean t c → c ≡ a

pub record RecordOf : Type 0 where
  -- the buffer's rule first, then the loader's, in a list of its own
  pub refusal : (t b : List ℕ) → GoesBy (8 unless (record_length ≤ length b) ∷ loader_row t room) (letter_in t b)
  pub keeps : (t b : List ℕ) (n : ℕ) → letter_in t b ≡ refused n → buffer_after (letter_in t b) b ≡ b
  -- the bytes written are the record of the claim about two descriptions, whatever list the loader is lent there
  pub bytes :
      (t b : List ℕ) (g : Letter) → letter_in t b ≡ given g → (l : List ℤ) → 8192 ≤ length l
      → (a : Answers) × ((worked t l b ≡ given a) × (buffer_after (letter_in t b) b ≡ a.bytes ++ drop record_length b))
  pub tests : (t b : List ℕ) (g : Letter) → letter_in t b ≡ given g → g.tests ≡ (mtf [] (named t)).tests

pub record TestsMean : Type 0 where
  -- "It holds (x, y) if (xE − X)² + (yE − Y)² is at most S"
  pub held : (d : Disk) (p : Point) → T (holds d p) ↔ (distance d p ≼ pos d.s)
  -- "in rising order (x, then y)"
  pub rising : (p q : Point) → T (before p q) ↔ ((p.x ≺ q.x) ⊎ ((p.x ≡ q.x) × (p.y ≺ q.y)))
