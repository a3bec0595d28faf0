-- The letters that stand for the calls (tests/README.md).
--
--   letter_of call    == the letter of the call
--   Decodes letter r  == r is the call with this letter, or the error with a letter that no call has
use Rattle.std.specs.Prelude.{◌≡◌, ◌≢◌, ℕ, Result, MatchResult}
use Rattle.cases.specs.declared.call.Call.{Call}
use Rattle.cases.specs.declared.call.Call.TheVariants.{Listing, Engine, Loader, Fixed, Chosen, Traced, Hull, Stretch, Append, Run, Estimate, Sheet, Part, Reader, Writer}
use Rattle.cases.specs.declared.call.UnknownCall.{UnknownCall}

abbrev pub letter_of : Call → ℕ
letter_of Listing = 68
letter_of Engine = 69
letter_of Loader = 76
letter_of Fixed = 70
letter_of Chosen = 67
letter_of Traced = 84
letter_of Hull = 72
letter_of Stretch = 88
letter_of Append = 65
letter_of Run = 71
letter_of Estimate = 66
letter_of Sheet = 83
letter_of Part = 80
letter_of Reader = 82
letter_of Writer = 87

abbrev pub Decodes : ℕ → Result Call UnknownCall → Type 0
Decodes letter r = MatchResult r (λ call. letter_of call ≡ letter) (λ e. (e.0 ≡ letter) × ((call : Call) → letter_of call ≢ letter))
