-- Demand 1 holds (specs/Demand1.antt): each call goes by its row (rules/proofs/Calls.antt), and a refused one leaves what it was lent.
use mathlib.Core.Path.{ap}
use Rattle.answers.specs.Outcome.{Outcome}
use Rattle.description.proofs.Loading.{after_refused}
use Rattle.engine.proofs.Checks.{list_refused}
use Rattle.drawn_points.proofs.Behind.{append_refused}
use Rattle.hull_points.proofs.Answers.{list_kept}
use Rattle.record_writer.specs.Writing.{left_by}
use Rattle.run_steps.specs.Steps.{State}
use Rattle.sheet_run.specs.Running.{buffer_by, numbers_by}
use Rattle.sheet_estimate.specs.Estimating.{Estimate, points_by, refusals_by}
use Rattle.rules.proofs.Calls as calls
use Rattle.claims.specs.Demand1.{Demand1}

pub demand_one : Demand1
demand_one = record {
  loader = calls.loader;
  sheet = calls.sheet;
  engine = calls.engine;
  radius = calls.radius;
  preview = calls.preview;
  writer = calls.writer;
  reader = calls.reader;
  append = calls.append;
  through = calls.through;
  traced = calls.traced;
  hull = calls.hull;
  stretch = calls.stretch;
  run = calls.run;
  estimate = calls.estimate;
  loader_keeps = λ t l n e. after_refused t l n e;
  engine_keeps = λ l n e. list_refused l e;
  writer_keeps = λ d ps b n e. ap (λ (o : Outcome (Unit {0})). left_by o d ps b) e;
  append_keeps = λ p l n k e. append_refused p l n e;
  hull_keeps = λ l n e. list_kept l e;
  run_keeps = λ s t b ns n e. (ap (λ (o : Outcome State). buffer_by o b) e, ap (λ (o : Outcome State). numbers_by o ns) e);
  estimate_keeps = λ s ps rs n e. (ap (λ (o : Outcome Estimate). points_by o ps) e, ap (λ (o : Outcome Estimate). refusals_by o rs) e);
}
