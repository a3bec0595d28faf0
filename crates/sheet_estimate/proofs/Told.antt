-- An estimate, glyph by glyph, as a loop over the directory goes.
--
--   load_at s i        == what the loader answers for glyph i of the sheet s
--   each f s i n      == f of these answers for glyphs i, i + 1, .., n of them
--   Noted f           == f of the first i of n glyphs stands at the front of a list, that of the others is still to come, and what is behind stays
--   Summed f          == the same for the sum of f over the glyphs, each at most `each`
--   Told              == both lists and both sums of an estimate behind i glyphs
--   told_next         == it holds behind one more glyph
--   told_answer, told_points, told_refusals : behind the last glyph all is as estimated
use mathlib.Core.Path.{◌≡◌, sym, ap, ap₂, ◌∙◌, subst, subst₂}
use mathlib.Core.List.{List, [], ◌∷◌, ◌++◌, map, append-nil, append_assoc}
use Prim.Native.Nat.{ℕ, ◌+◌, ◌-◌, ◌*◌, ◌≤◌, ◌<◌}
use native.Mathlib.Nat.{mul-add, add-zero}
use native.Mathlib.Numerals.{add-one}
use native.Mathlib.Omega.{arith}
use lib.ListN.{length, take, drop, set, length-set}
use lib.Seq.{take-suc-set, drop-set-lt}
use Rattle.answers.specs.Outcome.{Outcome, given, refused}
use Rattle.answers.specs.Lent.{front_put}
use Rattle.answers.proofs.LentLaws.{front_kept, behind_stays}
use Rattle.description.specs.Description.{load_of, room}
use Rattle.sheet.specs.Sheet.{part_at, parts}
use Rattle.sheet.proofs.Parts.{parts_next, parts_done}
use Rattle.record_writer.specs.Layout.{record_length}
use Rattle.sheet_estimate.specs.Estimating.{loads, points_of, refusal_of, bytes_for, most_tests, tests_for, sum, estimated, answer_of}
use Rattle.sheet_estimate.proofs.Sums.{most, tests_few, bytes_few}

abbrev load : List ℕ → Outcome ℕ
load d = load_of d room

abbrev pub load_at : List ℕ → ℕ → Outcome ℕ
load_at s i = load (part_at s i)

abbrev pub each : (Outcome ℕ → ℕ) → List ℕ → ℕ → ℕ → List ℕ
each f s i n = map f (map load (parts s i n))

module _ (f : Outcome ℕ → ℕ) (s : List ℕ) (n i : ℕ) where
  each_next : i < n → each f s i (n - i) ≡ f (load_at s i) ∷ each f s (i + 1) (n - (i + 1))
  each_next h = ap (λ (ds : List (List ℕ)). map f (map load ds)) (parts_next s i n h)

  each_done : n ≤ i → each f s i (n - i) ≡ []
  each_done h = ap (λ (ds : List (List ℕ)). map f (map load ds)) (parts_done s i n h)

-- ---- a list

pub record Noted (f : Outcome ℕ → ℕ) (s : List ℕ) (n : ℕ) (l₀ l : List ℕ) (i : ℕ) : Type 0 where
  pub same_length : length l ≡ length l₀
  pub stay : drop i l ≡ drop i l₀
  pub front : take i l ++ each f s i (n - i) ≡ map f (loads s n)

module _ (f : Outcome ℕ → ℕ) (s : List ℕ) (n : ℕ) where
  module _ {l₀ l : List ℕ} {i : ℕ} (z : Noted f s n l₀ l i) where
    noted_next : (v : ℕ) → i < n → n ≤ length l₀ → v ≡ f (load_at s i) → Noted f s n l₀ (set l i v) (i + 1)
    noted_next v below long e =
        let rest = each f s (i + 1) (n - (i + 1)) in
        let place : i < length l = omega (arith, z.same_length) in
        let put : take (i + 1) (set l i v) ≡ take i l ++ (v ∷ []) = ap (λ (k : ℕ). take k (set l i v)) (add-one i) ∙ take-suc-set l i v place in
        record {
          same_length = length-set l i v ∙ z.same_length;
          stay = drop-set-lt (i + 1) l i v (omega arith) ∙ behind_stays i l l₀ 1 z.stay;
          front =
              ap (λ (p : List ℕ). p ++ rest) put
              ∙ append_assoc (take i l) (v ∷ []) rest
              ∙ ap (λ (m : ℕ). take i l ++ (m ∷ rest)) e
              ∙ ap (λ (m : List ℕ). take i l ++ m) (sym (each_next f s n i below))
              ∙ z.front;
        }

    noted_end : n ≤ i → i ≤ n → n ≤ length l₀ → l ≡ front_put (map f (loads s n)) l₀
    noted_end over within long =
        front_kept i l l₀ (omega (arith, z.same_length)) z.stay
        ∙ ap (λ (p : List ℕ). front_put p l₀)
        (sym (append-nil (take i l)) ∙ ap (λ (m : List ℕ). take i l ++ m) (sym (each_done f s n i over)) ∙ z.front)

-- ---- a sum

pub record Summed (f : Outcome ℕ → ℕ) (s : List ℕ) (n limit v i : ℕ) : Type 0 where
  pub total : v + sum (each f s i (n - i)) ≡ sum (map f (loads s n))
  pub small : v ≤ limit * i

module _ (f : Outcome ℕ → ℕ) (s : List ℕ) (n limit : ℕ) where
  module _ {v i : ℕ} (z : Summed f s n limit v i) where
    summed_next : (x : ℕ) → i < n → x ≤ limit → x ≡ f (load_at s i) → Summed f s n limit (v + x) (i + 1)
    unfolding sum
    summed_next x below few e =
        let rest = sum (each f s (i + 1) (n - (i + 1))) in
        let now : x + rest ≡ sum (each f s i (n - i)) = ap (λ (y : ℕ). y + rest) e ∙ ap sum (sym (each_next f s n i below)) in
        record { total = omega (arith, now, z.total); small = step z.small }
      where
        step : v ≤ limit * i → v + x ≤ limit * (i + 1)
        step h = rw (mul-add limit i 1) (omega arith)

    summed_end : n ≤ i → v ≡ sum (map f (loads s n))
    unfolding sum
    summed_end over = let none : sum (each f s i (n - i)) ≡ 0 = ap sum (each_done f s n i over) in omega (arith, none, z.total)

-- ---- all four

pub record Told (s : List ℕ) (n : ℕ) (ps₀ rs₀ ps rs : List ℕ) (bytes tests i : ℕ) : Type 0 where
  pub within : i ≤ n
  pub points_told : Noted points_of s n ps₀ ps i
  pub refusals_told : Noted refusal_of s n rs₀ rs i
  pub bytes_told : Summed bytes_for s n record_length bytes i
  pub tests_told : Summed tests_for s n most tests i

module _ {s : List ℕ} {n : ℕ} {ps₀ rs₀ ps rs : List ℕ} {bytes tests i : ℕ} (z : Told s n ps₀ rs₀ ps rs bytes tests i) where
  told_next : (p k b t : ℕ) → i < n → n ≤ length ps₀ → n ≤ length rs₀
      → p ≡ points_of (load_at s i) → k ≡ refusal_of (load_at s i) → b ≡ bytes_for (load_at s i) → t ≡ tests_for (load_at s i)
      → Told s n ps₀ rs₀ (set ps i p) (set rs i k) (bytes + b) (tests + t) (i + 1)
  told_next p k b t below points_room refusals_room p_is k_is b_is t_is =
      record {
        within = omega arith;
        points_told = noted_next points_of s n z.points_told p below points_room p_is;
        refusals_told = noted_next refusal_of s n z.refusals_told k below refusals_room k_is;
        bytes_told =
            summed_next bytes_for s n record_length z.bytes_told b below (subst (λ (x : ℕ). x ≤ record_length) (sym b_is) (bytes_few (load_at s i))) b_is;
        tests_told = summed_next tests_for s n most z.tests_told t below (subst (λ (x : ℕ). x ≤ most) (sym t_is) (tests_few (part_at s i))) t_is;
      }

  pub told_taken : (m : ℕ) → i < n → n ≤ length ps₀ → n ≤ length rs₀ → load_at s i ≡ given m
      → Told s n ps₀ rs₀ (set ps i m) (set rs i 0) (bytes + record_length) (tests + most_tests m) (i + 1)
  told_taken m below points_room refusals_room e =
      told_next m 0 record_length (most_tests m) below points_room refusals_room
      (sym (ap points_of e)) (sym (ap refusal_of e)) (sym (ap bytes_for e)) (sym (ap tests_for e))

  pub told_faulty : (k : ℕ) → i < n → n ≤ length ps₀ → n ≤ length rs₀ → load_at s i ≡ refused k
      → Told s n ps₀ rs₀ (set ps i 0) (set rs i k) bytes tests (i + 1)
  told_faulty k below points_room refusals_room e =
      subst₂ (λ (b t : ℕ). Told s n ps₀ rs₀ (set ps i 0) (set rs i k) b t (i + 1)) (add-zero bytes) (add-zero tests)
      (told_next 0 k 0 0 below points_room refusals_room (sym (ap points_of e)) (sym (ap refusal_of e)) (sym (ap bytes_for e)) (sym (ap tests_for e)))

  module _ (over : n ≤ i) where
    pub told_answer : given (bytes, tests) ≡ answer_of (given (estimated s n))
    told_answer =
        ap₂ (λ (x y : ℕ). given (x, y)) (summed_end bytes_for s n record_length z.bytes_told over) (summed_end tests_for s n most z.tests_told over)

    pub told_points : n ≤ length ps₀ → ps ≡ front_put (estimated s n).points ps₀
    told_points room = noted_end points_of s n z.points_told over z.within room

    pub told_refusals : n ≤ length rs₀ → rs ≡ front_put (estimated s n).refusals rs₀
    told_refusals room = noted_end refusal_of s n z.refusals_told over z.within room
