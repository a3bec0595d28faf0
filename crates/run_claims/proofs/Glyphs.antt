-- What is known of the glyphs of a sheet, each worked whole.
--
--   glyph s k          == glyph k of the sheet s: its letter, or its description's refusal
--   load-refusal       : the loader refuses a description of at most 65,535 bytes with 2 to 5
--   Sound d o          == o is what the description d comes to: the procedure's count and a record of its length, or a refusal from 2 to 5
--   sound              : each glyph of a sheet that is not too long is sound
--   described, opened  : the description of glyph k is what the sheet opener gives, and each glyph below the count has one
use mathlib.Core.Path.{◌≡◌, refl, sym, ap, ◌∙◌, subst}
use mathlib.Core.Bool.{Bool, true, false, not}
use mathlib.Core.List.{List, [], ◌∷◌}
use Prim.Native.Nat.{ℕ, suc, ◌+◌, ◌≤◌, ◌<◌}
use native.Mathlib.Omega.{arith}
use lib.Dec.{eqb, leb}
use lib.ListN.{length, take, drop, length-take, length-drop}
use Rattle.answers.specs.Outcome.{Outcome, given, refused, refuse_if, and_then}
use Rattle.answers.proofs.OutcomeLaws.{not_given, refused_same, both_given, given_same}
use Rattle.geometry.specs.EmBox.{in_em_box}
use Rattle.lines.specs.Line.{Line, blank, point, fault}
use Rattle.description.specs.Description.{by_line, lines_read, load_of, room}
use Rattle.description.proofs.AcceptedTexts.{room_long}
use Rattle.description.proofs.Loading.{load_judged}
use Rattle.directory.specs.declared.Place.{Place}
use Rattle.directory.specs.Directory.{count, pair, count_of}
use Rattle.directory.proofs.Rows.{count_known}
use Rattle.sheet.specs.Sheet.{glyph_of, pick_list, part_of, part_at}
use Rattle.sheet.proofs.Parts.{given_pair, glyph_given}
use Rattle.record_writer.specs.Layout.{record_length}
use Rattle.letter.specs.Letter.{Letter, letter_of}
use Rattle.letter.proofs.Whole.{letter_loaded, letter_unloaded, letter-named, letter_long}
use Rattle.claims.specs.Values.{glyph_bytes}
use Rattle.run_claims.specs.SheetRun.{tests_of}

abbrev pub glyph : List ℕ → ℕ → Outcome Letter
glyph s k = letter_of (part_at s k)

-- ---- the loader's refusals

abbrev Own : ℕ → Type 0
Own n = (2 ≤ n) × (n ≤ 5)

refused_or : {A : Type 0} (b : Bool) (k n : ℕ) (rest : Outcome A) → refuse_if b k rest ≡ refused n → Own k → (rest ≡ refused n → Own n) → Own n
refused_or true k n rest h own later = subst Own (refused_same h) own
refused_or false k n rest h own later = later h

line_refusal : (ls : List Line) (m n : ℕ) → by_line m ls ≡ refused n → Own n
unfolding by_line
line_refusal [] m n h = refused_or (eqb m 0) 5 n (given m) h (omega arith, omega arith) (λ e. absurd (not_given (sym e)))
line_refusal (blank ∷ ls) m n h = line_refusal ls m n h
line_refusal (fault ∷ ls) m n h = subst Own (refused_same h) (omega arith, omega arith)
line_refusal (point p ∷ ls) m n h =
    refused_or (not (in_em_box p)) 3 n (refuse_if (leb 4096 m) 4 (by_line (suc m) ls)) h (omega arith, omega arith)
    (λ e. refused_or (leb 4096 m) 4 n (by_line (suc m) ls) e (omega arith, omega arith) (λ d. line_refusal ls (suc m) n d))

-- ---- a description worked whole

pub record Sound (d : List ℕ) (o : Outcome Letter) : Type 0 where
  pub tests_are : (g : Letter) → o ≡ given g → g.tests ≡ tests_of d
  pub long : (g : Letter) → o ≡ given g → length g.bytes ≡ record_length
  pub own : (n : ℕ) → o ≡ refused n → (2 ≤ n) × (n ≤ 5)

module _ (d : List ℕ) (short : length d ≤ 65535) where
  own_refusal : (n : ℕ) → letter_of d ≡ refused n → Own n
  own_refusal n h = by_load (load_of d room) refl
    where
      by_load : (o : Outcome ℕ) → load_of d room ≡ o → Own n
      by_load (given m) e = absurd (not_given (sym h ∙ letter_loaded d room room_long m e))
      by_load (refused k) e =
          subst Own (refused_same (sym (letter_unloaded d room room_long k e) ∙ h)) (line_refusal (lines_read d) 0 k (sym (load_judged d room room_long short) ∙ e))

  sound_letter : Sound d (letter_of d)
  sound_letter = record { tests_are = λ g e. ap (λ (f : Letter). f.tests) (letter-named d g e); long = letter_long d; own = own_refusal }

part_short : (s : List ℕ) (b : Bool) (start len : ℕ) → length (pick_list b (take len (drop start s))) ≤ length s
part_short s true start len = omega (arith, length-take len (drop start s), length-drop start s)
part_short s false start len = omega arith

pub sound : (s : List ℕ) → length s ≤ 65535 → (k : ℕ) → Sound (part_at s k) (glyph s k)
sound s short k =
    let p = pair s k in
    sound_letter (part_at s k) (omega (arith, part_short s (leb (p.start + p.len) (length s)) p.start p.len))

-- ---- the sheet opener's glyphs

pub described : (s : List ℕ) (k : ℕ) (d : List ℕ) → glyph_bytes s k ≡ given d → (k < count s) × (d ≡ part_at s k)
described s k d h =
    let one = both_given (glyph_of s k) _ d h in
    let g = given_pair s k one.0 one.1.0 in
    (g.below, sym (given_same one.1.1) ∙ ap (λ (p : Place). part_of s p.start p.len) g.place)

pub opened : (s : List ℕ) (k n : ℕ) → count_of s ≡ given n → k < count s → glyph_bytes s k ≡ given (part_at s k)
opened s k n e h =
    ap (λ (o : Outcome Place). and_then o (λ p. given (part_of s p.start p.len)))
    (glyph_given s k n e (subst (λ (m : ℕ). k < m) (sym (count_known s n e).all) h))
