-- Demand 3 of document 00, over the definitions that the contracts of the public calls cite. It is shown in proofs/Demand3.antt.
--
--   ProcedureIsWelzls    == the disk, the count and the order left are those of Welzl's procedure, started on the list as given: of the
--                           function `mtf`, and of document 01's own words (`Runs`); the order left is a permutation, and the count is at
--                           most (n³ + 5n) / 6
--   AcceptedDescription  == a description that the loader, lent some list, does not refuse
--   Answers              == what the calls give for a description: disk, support set, whole radius, the preview's bits and the record
--   answers_for e b       == whole radius, preview and writer, lent the buffer b, given the disk and support set e that the engine returned
--   worked t l b         == the calls one after another for the description t, lent the list l and the buffer b: loader, then engine, given
--                           the loader's points alone (letter: `enclosure_in`); then `answers_for`
--   WorkedOut l bs       == bs is a record worked out for the accepted list l, in some buffer that the writer does not refuse
--   Demand3              == all of demand 3
use Rattle.std.specs.Prelude.{◌≡◌, ◌↔◌, ℕ, ◌+◌, ◌*◌, ◌/◌, ◌≤◌, ℤ, length, take}
use mathlib.Core.List.{List, [], Permᴰ}
use Rattle.answers.specs.Outcome.{Outcome, given, and_then}
use Rattle.geometry.specs.declared.Point.{Point}
use Rattle.geometry.specs.Plane.{Disk}
use Rattle.geometry.specs.Points.{points, flat}
use Rattle.point_lists.specs.Sets.{Same}
use Rattle.disks.specs.Smallest.{Smallest}
use Rattle.disks.specs.Procedure.{State, disk, mtf}
use Rattle.disks.specs.Runs.{Runs}
use Rattle.disks.specs.FirstSupport.{IsFirstSupport}
use Rattle.description.specs.Description.{load_of, named}
use Rattle.engine.specs.Engine.{Enclosure, enclose_of, list_after}
use Rattle.preview.specs.Preview.{preview_of}
use Rattle.record_writer.specs.Layout.{record_length}
use Rattle.radius.specs.Radius.{radius_of}
use Rattle.record_writer.specs.Writing.{write_of, buffer_after}
use Rattle.letter.specs.Letter.{enclosure_in}
use Rattle.claims.specs.Values.{bits}

-- ---- the procedure

-- of the answer e for the list l
pub record ProcedureIsWelzls (l : List ℤ) (e : Enclosure) : Type 0 where
  -- "Welzl's move-to-front procedure, started on the list as given, ends on the disk of demand 2"
  pub ends_on_disk : (mtf [] (points l)).cover ≡ disk e.disk
  pub smallest : Smallest (points l) e.disk
  -- "The test count returned and the order left in the list .. are exactly that procedure's"
  pub tests_are : e.tests ≡ (mtf [] (points l)).tests
  pub order_is : list_after l ≡ flat (mtf [] (points l)).left
  -- the procedure as document 01 has it ("P empty or R of three: .. Otherwise, with p the last of P: .."), from no point fixed, ends in this disk,
  -- this count and this order, and in nothing else
  pub by_text : (s : State) → Runs [] (points l) s ↔ (s ≡ record { cover = disk e.disk; tests = e.tests; left = points (list_after l) })
  -- "the same corners each as often as before"
  pub permuted : Permᴰ (points (list_after l)) (points l)
  -- "the count never above (n³ + 5n) / 6 for n entries"
  pub tests_most : e.tests ≤ (length (points l) * length (points l) * length (points l) + 5 * length (points l)) / 6

-- ---- two descriptions

pub record AcceptedDescription (t : List ℕ) : Type 0 where
  pub list : List ℤ
  pub count : ℕ
  pub loads : load_of t list ≡ given count

pub record Answers : Type 0 where
  pub disk_given : Disk
  pub support : List Point
  pub radius : ℕ
  -- the bits of the preview's three values
  pub shown : List ℕ
  pub bytes : List ℕ

abbrev pub answers_for : Enclosure → List ℕ → Outcome Answers
answers_for e b =
    and_then (radius_of e.disk e.support) (λ r.
    and_then (preview_of e.disk e.support) (λ p.
    and_then (write_of e.disk e.support b) (λ done.
    given (record {
      disk_given = e.disk;
      support = e.support;
      radius = r;
      shown = bits p;
      bytes = take record_length (buffer_after e.disk e.support b);
    }))))

unfoldable pub worked : List ℕ → List ℤ → List ℕ → Outcome Answers
worked t l b = and_then (enclosure_in t l) (λ e. answers_for e b)

-- ---- records worked out

pub record WorkedOut (l : List ℤ) (bs : List ℕ) : Type 0 where
  pub answer : Enclosure
  pub accepted : enclose_of l ≡ given answer
  pub buffer : List ℕ
  pub written : write_of answer.disk answer.support buffer ≡ given tt
  pub filled : bs ≡ take record_length (buffer_after answer.disk answer.support buffer)

pub record Demand3 : Type 0 where
  -- every list that the engine accepts, whatever points in it repeat or share a circle
  pub procedure : (l : List ℤ) (e : Enclosure) → enclose_of l ≡ given e → ProcedureIsWelzls l e
  -- "Any two accepted descriptions that name the same set of corners, in whatever order and however often, give the same disk, rim corners,
  -- cutting radius, preview and record, to the last bit": none of the calls refuses, and all that they give is equal
  pub descriptions :
      (t u : List ℕ) → AcceptedDescription t → AcceptedDescription u → Same (named t) (named u)
      → (l m : List ℤ) → 8192 ≤ length l → 8192 ≤ length m
      → (b c : List ℕ) → record_length ≤ length b → record_length ≤ length c
      → (a : Answers) × (worked t l b ≡ given a) × (worked u m c ≡ given a)
  -- the writer refuses no answer of the engine, in a buffer that is long enough
  pub recorded :
      (l : List ℤ) (e : Enclosure) → enclose_of l ≡ given e
      → (b : List ℕ) → record_length ≤ length b → WorkedOut l (take record_length (buffer_after e.disk e.support b))
  -- "any two records worked out are equal byte for byte exactly when the smallest disks and first rim sets of their lists are equal"
  pub records :
      (l m : List ℤ) (bs cs : List ℕ) → WorkedOut l bs → WorkedOut m cs
      → (d c : Disk) → Smallest (points l) d → Smallest (points m) c
      → (S R : List Point) → IsFirstSupport (points l) S → IsFirstSupport (points m) R
      → (bs ≡ cs) ↔ ((d ≡ c) × (S ≡ R))
