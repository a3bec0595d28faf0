-- The letters of document 01 and its edges as descriptions ("Letters to try"). Shown in proofs/Descriptions.antt.
--
--   bytes t           == the bytes of a text (of characters of one byte each)
--   copies n t        == n times the text t
--   Loads bs o        == the loader, lent any list that is long enough, answers o for the bytes bs
--   Described c t     == t is a description of the letter c: it names the letter's list, and the loader takes it
--   descriptions      == one for each of the letters A to K
--   edges             == descriptions and what the loader answers
--   numbers           == words and the numbers that they are (02, item 1)
--   writings          == pairs of texts that name the same set of points in other ways
--   Agree t u         == whatever lists and buffers that are long enough are lent: the same disk, support set, radius, preview and record
use Rattle.std.specs.Prelude.{◌≡◌, List, [], ◌∷◌, ◌++◌, ℕ, zero, suc, ◌≤◌, ℤ, pos, neg_ℤ, length}
use Rattle.std.proofs.Math.Option.{Option, none, some}
use Prim.Native.Char.{code}
use Prim.Native.String as text
use Prim.Native.String.{String}
use Rattle.answers.specs.Outcome.{Outcome, given, refused}
use Rattle.numerals.specs.Numeral.{numeral}
use Rattle.description.specs.Description.{load_of, named}
use Rattle.record_writer.specs.Layout.{record_length}
use Rattle.claims.specs.Demand3.{Answers, worked}
use Rattle.letters_to_try.specs.Letters.{Letter}

abbrev pub bytes : String → List ℕ
bytes text.[] = []
bytes (text.◌∷◌ c t) = code c ∷ bytes t

abbrev pub copies : ℕ → String → List ℕ
copies zero t = []
copies (suc n) t = bytes t ++ copies n t

pub record Loads (bs : List ℕ) (o : Outcome ℕ) : Type 0 where
  pub answers : (l : List ℤ) → 8192 ≤ length l → load_of bs l ≡ o

-- ---- the letters

pub record Described (c : Letter) (t : String) : Type 0 where
  pub names : named (bytes t) ≡ c.list
  pub loads : Loads (bytes t) (given (length c.list))

abbrev pub AllDescribed : List Letter → List String → Type 0
AllDescribed [] [] = Unit {0}
AllDescribed [] (t ∷ ts) = ⊥
AllDescribed (c ∷ cs) [] = ⊥
AllDescribed (c ∷ cs) (t ∷ ts) = Described c t × AllDescribed cs ts

-- A to K, the files of letters/
abbrev pub descriptions : List String
descriptions =
    "0 0\n"
    ∷ "0 0\n3 0\n"
    ∷ "0 0\n4 0\n"
    ∷ "0 0\n10 0\n0 10\n10 10\n"
    ∷ "0 0\n6 0\n0 8\n"
    ∷ "0 0\n4 0\n2 3\n"
    ∷ "0 0\n10 0\n5 1\n"
    ∷ "7 7\n7 7\n7 7\n"
    ∷ "0 0\n1 1\n2 2\n"
    ∷ "0 0\n2 0\n4 0\n"
    ∷ "0 -250\n1000 -250\n0 750\n1000 750\n"
    ∷ []

-- ---- edges

pub record Edge : Type 0 where
  pub description : List ℕ
  pub answer : Outcome ℕ

abbrev pub edge : String → Outcome ℕ → Edge
edge t o = record { description = bytes t; answer = o }

abbrev pub lines : ℕ → String → Outcome ℕ → Edge
lines n t o = record { description = copies n t; answer = o }

abbrev pub AllLoad : List Edge → Type 0
AllLoad [] = Unit {0}
AllLoad (e ∷ es) = Loads e.description e.answer × AllLoad es

abbrev pub edges : List Edge
edges =
    -- "x 1000 passes, 1001 gives 3; y −250 passes, −251 gives 3; 4,096 corners pass, 4,097 give 4; "12345 0" gives 2; a lone line feed gives 5"; the
    -- em box's edges by 02, item 10
    edge "2048 0" (given 1)
    ∷ edge "2049 0" (refused 3)
    ∷ edge "0 -512" (given 1)
    ∷ edge "0 -513" (refused 3)
    ∷ edge "0 1536" (given 1)
    ∷ edge "0 1537" (refused 3)
    ∷ lines 4096 "0 0\n" (given 4096)
    ∷ lines 4097 "0 0\n" (refused 4)
    ∷ edge "12345 0" (refused 2)
    ∷ edge "\n" (refused 5)
    -- no bytes; blank lines, spaces, −0 and leading zeros
    ∷ edge "" (refused 5)
    ∷ edge " \n\n -0  0007 \n" (given 1)
    -- the first faulty line decides
    ∷ edge "1 1\n2049 0\nx" (refused 3)
    ∷ edge "1 1\nx\n2049 0" (refused 2)
    -- only byte 32 is a space, and a minus parts no numbers
    ∷ edge "1\t1" (refused 2)
    ∷ edge "1 1\r\n" (refused 2)
    ∷ edge "5-3" (refused 2)
    -- one plus or one minus before a number (02, item 1)
    ∷ edge "+12 -7\n+0 -0\n+2048 +1536" (given 3)
    ∷ edge "+-1 0" (refused 2)
    ∷ edge "0 0\n++1 0" (refused 2)
    ∷ edge "+2049 -+1" (refused 2)
    ∷ edge "0 +1537\n+" (refused 3)
    ∷ []

-- ---- numbers: "may begin with one plus or one minus, then 1 to 4 digits as before. "+0" is 0; "+-1" and "++1" are refused as 2" (02, item 1)

pub record Spelling : Type 0 where
  pub text : String
  pub number : Option ℤ

abbrev pub spells : String → Option ℤ → Spelling
spells t z = record { text = t; number = z }

abbrev pub AllNumbers : List Spelling → Type 0
AllNumbers [] = Unit {0}
AllNumbers (s ∷ ss) = (numeral (bytes s.text) ≡ s.number) × AllNumbers ss

abbrev pub numbers : List Spelling
numbers =
    spells "+12" (some (pos 12))
    ∷ spells "-7" (some (neg_ℤ (pos 7)))
    ∷ spells "+0" (some (pos 0))
    ∷ spells "-0" (some (pos 0))
    ∷ spells "+0750" (some (pos 750))
    ∷ spells "+-1" none
    ∷ spells "++1" none
    ∷ spells "-+1" none
    ∷ spells "+" none
    ∷ spells "1+" none
    ∷ spells "+12345" none
    ∷ []

-- ---- two writings of a letter: other order, repeats, blank lines, signs, leading zeros

pub record Agree (t u : String) : Type 0 where
  pub answers :
      (l m : List ℤ) → 8192 ≤ length l → 8192 ≤ length m → (b c : List ℕ) → record_length ≤ length b → record_length ≤ length c
      → (a : Answers) × (worked (bytes t) l b ≡ given a) × (worked (bytes u) m c ≡ given a)

pub record Writing : Type 0 where
  pub one : String
  pub other : String

abbrev pub AllAgree : List Writing → Type 0
AllAgree [] = Unit {0}
AllAgree (w ∷ ws) = Agree w.one w.other × AllAgree ws

abbrev pub writings : List Writing
writings =
    -- D
    record { one = "0 0\n10 0\n0 10\n10 10\n"; other = "10 10\n0 10\n10 0\n0 0\n10 10" }
    -- F
    ∷ record { one = "0 0\n4 0\n2 3\n"; other = "\n  +2   003 \n-0 +0\n\n4 0000\n+0004 -0" }
    ∷ []
