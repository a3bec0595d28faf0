-- Demand 2 holds (specs/Demand2.antt).
use mathlib.Core.Path.{◌≡◌, refl, sym, ap, ◌∙◌, subst}
use mathlib.Core.Bool.{true}
use mathlib.Core.List.{List, [], ◌∷◌}
use lib.IntN.{ℤ}
use Rattle.answers.specs.Outcome.{given}
use Rattle.geometry.specs.declared.Point.{Point}
use Rattle.geometry.specs.EmBox.{em, all_in_em_box}
use Rattle.geometry.specs.Points.{points}
use Rattle.geometry.proofs.EmBox.{box_members}
use Rattle.point_lists.proofs.Sets.{same_refl}
use Rattle.disks.proofs.Welzl.{smallest}
use Rattle.disks.proofs.OneWriting.{smallest_same}
use Rattle.disks.proofs.Answer.{em_square, limits}
use Rattle.disks.proofs.First.{first_support_is, first_unique}
use Rattle.engine.specs.Engine.{Enclosure, enclosure, enclose_of}
use Rattle.engine.proofs.Accepted.{accepted_list, has_point}
use Rattle.record_reader.specs.Reading.{read_of}
use Rattle.record_reader.proofs.RoundTrip.{read_written, written_again}
use Rattle.claims.proofs.Records.{written, written_checked, filled}
use Rattle.claims.specs.Demand2.{EngineIsRight, RecordsGoRound, Demand2}

right : (P : List Point) → (P ≡ [] → ⊥) → all_in_em_box P ≡ true → EngineIsRight P (enclosure P)
right [] some box = absurd (some refl)
right (p ∷ P) some box = record {
  smallest = smallest p P;
  no_other_disk = λ d s. smallest_same (same_refl (p ∷ P)) (same_refl []) s (smallest p P);
  limits = limits em em_square p P (box_members (p ∷ P) box);
  first_support_is = first_support_is p P;
  no_other_support = λ S f. first_unique (same_refl (p ∷ P)) f (first_support_is p P);
}

pub engine_right : (l : List ℤ) (e : Enclosure) → enclose_of l ≡ given e → EngineIsRight (points l) e
engine_right l e h =
    let a = accepted_list l e h in
    subst (EngineIsRight (points l)) (sym a.answer) (right (points l) (has_point l a.even a.some) a.boxed)

records_go_round : RecordsGoRound
records_go_round = record {
  read_back = λ d ps buf e. ap read_of (filled d ps buf e) ∙ read_written d ps (written_checked d ps buf e).1;
  write_back = λ bs bytes long d ps e buf h.
      let again = written_again bs bytes long d ps e in
      let done = written d ps buf again.0 h in
      (done, filled d ps buf done ∙ again.1);
}

pub demand_two : Demand2
demand_two = record { engine = engine_right; records = records_go_round }
