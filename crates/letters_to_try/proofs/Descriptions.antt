-- The letters and the edges as descriptions are what specs/Descriptions.antt says, by computing; two writings agree by demand 3.
--
--   letters_described, edges_load : the letters and the edges
--   numbers_read                  : the words of document 02's item 1
--   each_in                       : points that pass the test are in the list
--   writings_agree                : the writings
use mathlib.Core.Path.{◌≡◌, refl, ◌∙◌}
use mathlib.Core.Bool.{true}
use mathlib.Core.List.{List}
use Prim.Native.Nat.{ℕ}
use Prim.Native.String.{String}
use borrow.Author.Tests.{leb-true}
use lib.Dec.{leb}
use lib.ListN.{length}
use Rattle.answers.specs.Outcome.{Outcome, given}
use Rattle.geometry.specs.declared.Point.{Point}
use Rattle.geometry.specs.EmBox.{in_box}
use Rattle.lines.specs.Line.{join_piece, pieces, non_empty, line_of_words}
use Rattle.numerals.specs.Numeral.{all_digits, decimal, digits, numeral}
use Rattle.description.specs.Description.{lines_read, points_on, by_line, named, room}
use Rattle.description.proofs.Loading.{load_judged}
use Rattle.description.proofs.AcceptedTexts.{room_long}
use Rattle.point_lists.specs.Sets.{In, same, has, all_of}
use Rattle.point_lists.proofs.SetTests.{has_in, all_in}
use Rattle.claims.specs.Demand3.{AcceptedDescription}
use Rattle.letters_to_try.specs.Letters.{Letter, letters}
use Rattle.claims.proofs.Demand3.{demand_three}
use Rattle.letters_to_try.proofs.Letters.{◌&◌}
use Rattle.letters_to_try.specs.Descriptions.{bytes, Loads, Described, AllDescribed, descriptions, AllLoad, edges}
use Rattle.letters_to_try.specs.Descriptions.{AllNumbers, numbers, Agree, AllAgree, writings}

loads : (bs : List ℕ) {o : Outcome ℕ} → leb (length bs) 65535 ≡ true → by_line 0 (lines_read bs) ≡ o → Loads bs o
loads bs short e = record { answers = λ l room. load_judged bs l room (leb-true (length bs) 65535 short) ∙ e }

described : (c : Letter) (t : String) → leb (length (bytes t)) 65535 ≡ true → named (bytes t) ≡ c.list
    → by_line 0 (lines_read (bytes t)) ≡ given (length c.list) → Described c t
described c t short names taken = record { names = names; loads = loads (bytes t) short taken }

pub letters_described : AllDescribed letters descriptions
unfolding join_piece pieces non_empty all_digits decimal digits numeral line_of_words points_on by_line in_box
letters_described =
    described _ _ refl refl refl
    & described _ _ refl refl refl
    & described _ _ refl refl refl
    & described _ _ refl refl refl
    & described _ _ refl refl refl
    & described _ _ refl refl refl
    & described _ _ refl refl refl
    & described _ _ refl refl refl
    & described _ _ refl refl refl
    & described _ _ refl refl refl
    & described _ _ refl refl refl
    & tt

pub edges_load : AllLoad edges
unfolding join_piece pieces non_empty all_digits decimal digits numeral line_of_words points_on by_line in_box
edges_load =
    loads _ refl refl
    & loads _ refl refl
    & loads _ refl refl
    & loads _ refl refl
    & loads _ refl refl
    & loads _ refl refl
    & loads _ refl refl
    & loads _ refl refl
    & loads _ refl refl
    & loads _ refl refl
    & loads _ refl refl
    & loads _ refl refl
    & loads _ refl refl
    & loads _ refl refl
    & loads _ refl refl
    & loads _ refl refl
    & loads _ refl refl
    & loads _ refl refl
    & loads _ refl refl
    & loads _ refl refl
    & loads _ refl refl
    & loads _ refl refl
    & tt

pub numbers_read : AllNumbers numbers
unfolding all_digits decimal digits numeral
numbers_read = refl & refl & refl & refl & refl & refl & refl & refl & refl & refl & refl & tt

-- ---- two writings

each_in : (P Q : List Point) → all_of (has Q) P ≡ true → (p : Point) → In p P → In p Q
each_in P Q h p i = has_in Q p (all_in (has Q) P h p i)

accepted : (t : String) (n : ℕ) → Loads (bytes t) (given n) → AcceptedDescription (bytes t)
accepted t n h = record { list = room; count = n; loads = h.answers room room_long }

agree : (t u : String) (m n : ℕ) → Loads (bytes t) (given m) → Loads (bytes u) (given n)
    → all_of (has (named (bytes u))) (named (bytes t)) ≡ true → all_of (has (named (bytes t))) (named (bytes u)) ≡ true
    → Agree t u
agree t u m n h k to from = record {
  answers = demand_three.descriptions (bytes t) (bytes u) (accepted t m h) (accepted u n k)
      (record { to = each_in (named (bytes t)) (named (bytes u)) to; from = each_in (named (bytes u)) (named (bytes t)) from });
}

pub writings_agree : AllAgree writings
unfolding join_piece pieces non_empty all_digits decimal digits numeral line_of_words points_on by_line in_box same has all_of
writings_agree =
    agree _ _ 4 5 (loads _ refl refl) (loads _ refl refl) refl refl
    & agree _ _ 3 4 (loads _ refl refl) (loads _ refl refl) refl refl
    & tt
