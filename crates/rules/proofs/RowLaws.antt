-- Rows of rules, and the rows of checks that go by them.
--
--   row_end    : a value is given where no rule is left
--   row_step   : a check that fails exactly where its rule is broken, before checks that go by the rest of the row
--   due_append, kept_append : a row that goes on with another
--   row_same   : the same answer by an equivalent row
--   row_kept, rule_kept : a rule that is kept, before the rest of the row
--   row_then   : one call after another goes by the one row, then the other
--   row_none, row_first : the rule of all items of a list, by the first of them
--   row-through : a call that is refused as another is, and gives a value where that does, goes by the same row
use mathlib.Core.Path.{◌≡◌, refl, sym, ap, subst, ◌∙◌}
use mathlib.Core.Logic.{◌↔◌, ◌⊎◌, inl, inr}
use mathlib.Core.Bool.{Bool, true, false}
use mathlib.Core.List.Memᴰ
use mathlib.Core.List.{List, [], ◌∷◌, ◌++◌, Memᴰ}
use Prim.Native.Nat.{ℕ}
use native.Mathlib.Omega.{arith}
use Rattle.answers.specs.Outcome.{Outcome, given, refused, refuse_if, and_then}
use Rattle.answers.proofs.OutcomeLaws.{not_given, refused_same}
use Rattle.rules.specs.Row.{Rule, ◌unless◌, DueFirst, AllKept, FirstBroken, each_of, GoesBy}

pub row_end : {A : Type 0} (a : A) → GoesBy [] (given a)
row_end a = record {
  refusal = λ n. (λ e. not_given (sym e), λ h. absurd h);
  taken = (λ g. tt, λ h. (a, refl));
}

pub row_step : {A : Type 0} (b : Bool) (n : ℕ) {P : Type 0} {rest : Outcome A} {row : List Rule}
    → (b ≡ true → P → ⊥) → (b ≡ false → P) → (P → GoesBy row rest) → GoesBy (n unless P ∷ row) (refuse_if b n rest)
row_step true n fails holds go = record {
  refusal = λ m. (
    λ e. inl (fails refl, sym (refused_same e)),
    λ d. elim d [ inl h ↦ ap refused (sym h.1) | inr h ↦ absurd (fails refl h.0) ],
  );
  taken = (λ g. absurd (not_given g.1), λ h. absurd (fails refl h.0));
}
row_step false n fails holds go = let p = holds refl in let g = go p in record {
  refusal = λ m. (
    λ e. inr (p, (g.refusal m).0 e),
    λ d. elim d [ inl h ↦ absurd (h.0 p) | inr h ↦ (g.refusal m).1 h.1 ],
  );
  taken = (λ t. (p, g.taken.0 t), λ h. g.taken.1 h.1);
}

-- ---- a row that goes on with another

pub due_append : (row rest : List Rule) (n : ℕ) → DueFirst (row ++ rest) n ↔ (DueFirst row n ⊎ (AllKept row × DueFirst rest n))
due_append [] rest n = (λ d. inr (tt, d), λ d. elim d [ inl h ↦ absurd h | inr h ↦ h.1 ])
due_append (r ∷ row) rest n = let e = due_append row rest n in (
  λ d. elim d [ inl h ↦ inl (inl h) | inr h ↦ elim (e.0 h.1) [ inl k ↦ inl (inr (h.0, k)) | inr k ↦ inr ((h.0, k.0), k.1) ] ],
  λ d. elim d [ inl h ↦ elim h [ inl k ↦ inl k | inr k ↦ inr (k.0, e.1 (inl k.1)) ] | inr h ↦ inr (h.0.0, e.1 (inr (h.0.1, h.1))) ],
)

pub kept_append : (row rest : List Rule) → AllKept (row ++ rest) ↔ (AllKept row × AllKept rest)
kept_append [] rest = (λ k. (tt, k), λ k. k.1)
kept_append (r ∷ row) rest = let e = kept_append row rest in (
  λ k. let h = e.0 k.1 in ((k.0, h.0), h.1),
  λ k. (k.0.0, e.1 (k.0.1, k.1)),
)

-- the same answer by an equivalent row
pub row_same : {A : Type 0} {o : Outcome A} {row other : List Rule} → ((n : ℕ) → DueFirst row n ↔ DueFirst other n) → (AllKept row ↔ AllKept other)
    → GoesBy row o → GoesBy other o
row_same due kept g = record {
  refusal = λ n. (λ e. (due n).0 ((g.refusal n).0 e), λ d. (g.refusal n).1 ((due n).1 d));
  taken = (λ t. kept.0 (g.taken.0 t), λ k. g.taken.1 (kept.1 k));
}

-- a rule that is kept, before the rest of the row
pub row_kept : {A : Type 0} {o : Outcome A} {row : List Rule} (r : Rule) → r.Kept → ((n : ℕ) → r.Broken n → ⊥) → GoesBy row o → GoesBy (r ∷ row) o
row_kept r k b g = row_same (λ n. (λ d. inr (k, d), λ d. elim d [ inl h ↦ absurd (b n h) | inr h ↦ h.1 ])) (λ a. (k, a), λ a. a.1) g

pub rule_kept : {A : Type 0} {o : Outcome A} {row : List Rule} {P : Type 0} (n : ℕ) → P → GoesBy row o → GoesBy (n unless P ∷ row) o
rule_kept {P} n p g = row_kept (n unless P) p (λ m b. b.0 p) g

-- a call that is refused as another is, and gives a value where that does
pub row-through : {A B : Type 0} {row : List Rule} (o : Outcome A) (p : Outcome B) → GoesBy row o
    → ((a : A) → o ≡ given a → (b : B) × (p ≡ given b)) → ((n : ℕ) → o ≡ refused n → p ≡ refused n) → GoesBy row p
row-through (given a) p g f h = let k = f a refl in record {
  refusal = λ n. (λ e. absurd (not_given (sym e ∙ k.1)), λ d. absurd (not_given (sym ((g.refusal n).1 d))));
  taken = (λ t. g.taken.0 (a, refl), λ r. k);
}
row-through (refused m) p g f h = let k = h m refl in record {
  refusal = λ n. (λ e. (g.refusal n).0 (ap refused (refused_same (sym k ∙ e))), λ d. k ∙ ap refused (refused_same ((g.refusal n).1 d)));
  taken = (λ t. absurd (not_given (sym k ∙ t.1)), λ r. absurd (not_given (g.taken.1 r).1));
}

-- one call after another goes by the one row, then the other
pub row_then : {A B : Type 0} (row next : List Rule) (f : A → Outcome B) (o : Outcome A) → GoesBy row o
    → ((a : A) → o ≡ given a → GoesBy next (f a)) → GoesBy (row ++ next) (and_then o f)
row_then row next f (given a) g h = let k = g.taken.0 (a, refl) in let m = h a refl in record {
  refusal = λ n. (
    λ e. (due_append row next n).1 (inr (k, (m.refusal n).0 e)),
    λ d. elim ((due_append row next n).0 d) [ inl c ↦ absurd (not_given (sym ((g.refusal n).1 c))) | inr c ↦ (m.refusal n).1 c.1 ],
  );
  taken = (λ t. (kept_append row next).1 (k, m.taken.0 t), λ c. m.taken.1 ((kept_append row next).0 c).1);
}
row_then row next f (refused r) g h = record {
  refusal = λ n. (
    λ e. (due_append row next n).1 (inl ((g.refusal n).0 (ap refused (refused_same e)))),
    λ d. elim ((due_append row next n).0 d) [ inl c ↦ ap refused (refused_same ((g.refusal n).1 c)) | inr c ↦ absurd (not_given (g.taken.1 c.0).1) ],
  );
  taken = (λ t. absurd (not_given t.1), λ c. absurd (not_given (g.taken.1 ((kept_append row next).0 c).0).1));
}

-- ---- the rule of all items of a list

module _ {A : Type 0} (row : A → List Rule) where
  no_item : (front back : List A) (a : A) → [] ≡ front ++ a ∷ back → ⊥
  no_item [] back a e = let z : ◌≡◌ {A = ℕ} 0 1 = cc in omega arith
  no_item (b ∷ front) back a e = let z : ◌≡◌ {A = ℕ} 0 1 = cc in omega arith

  pub row_none : {B : Type 0} (b : B) → GoesBy (each_of row [] ∷ []) (given b)
  row_none b = row_kept (each_of row []) (λ a m. absurd (Memᴰ.not-nil m)) (λ n f. no_item f.front f.back f.item f.parted) (row_end b)

  all_kept : (a : A) (xs : List A) → AllKept (row a) → ((b : A) → Memᴰ b xs → AllKept (row b))
      → (b : A) → Memᴰ b (a ∷ xs) → AllKept (row b)
  all_kept a xs k h b m = elim (Memᴰ.cases_cons m) [ inl e ↦ subst (λ (c : A). AllKept (row c)) (sym e) k | inr i ↦ h b i ]

  module _ (a : A) (xs : List A) where
    -- the first item is broken, or it keeps its row and the first broken one is behind it
    broken_here : {n : ℕ} → DueFirst (row a) n → FirstBroken row (a ∷ xs) n
    broken_here d = record { front = []; item = a; back = xs; parted = refl; kept = λ b m. absurd (Memᴰ.not-nil m); due = d }

    broken_later : {n : ℕ} → AllKept (row a) → FirstBroken row xs n → FirstBroken row (a ∷ xs) n
    broken_later k f = record {
      front = a ∷ f.front;
      item = f.item;
      back = f.back;
      parted = ap {B = List A} (λ l. a ∷ l) f.parted;
      kept = all_kept a f.front k f.kept;
      due = f.due;
    }

    broken_split : {n : ℕ} → FirstBroken row (a ∷ xs) n → DueFirst (row a) n ⊎ (AllKept (row a) × FirstBroken row xs n)
    broken_split {n} f = go f.front f.parted f.kept
      where
        go : (front : List A) → a ∷ xs ≡ front ++ f.item ∷ f.back → ((b : A) → Memᴰ b front → AllKept (row b))
            → DueFirst (row a) n ⊎ (AllKept (row a) × FirstBroken row xs n)
        go [] e k = let same : f.item ≡ a = cc in inl (subst (λ (c : A). DueFirst (row c) n) same f.due)
        go (b ∷ front) e k =
            let same : b ≡ a = cc in
            let others : xs ≡ front ++ f.item ∷ f.back = cc in
            inr (
              subst (λ (c : A). AllKept (row c)) same (k b (Memᴰ.head refl)),
              record { front = front; item = f.item; back = f.back; parted = others; kept = λ c m. k c (Memᴰ.tail m); due = f.due },
            )

    pub row_first : {B : Type 0} {o : Outcome B} → GoesBy (row a ++ (each_of row xs ∷ [])) o → GoesBy (each_of row (a ∷ xs) ∷ []) o
    row_first g = row_same (λ n. (to n, from n)) (kept_to, kept_from) g
      where
        kept_to : AllKept (row a ++ (each_of row xs ∷ [])) → AllKept (each_of row (a ∷ xs) ∷ [])
        kept_to k = let h = (kept_append (row a) (each_of row xs ∷ [])).0 k in (all_kept a xs h.0 h.1.0, tt)

        kept_from : AllKept (each_of row (a ∷ xs) ∷ []) → AllKept (row a ++ (each_of row xs ∷ []))
        kept_from k = (kept_append (row a) (each_of row xs ∷ [])).1 (k.0 a (Memᴰ.head refl), ((λ b m. k.0 b (Memᴰ.tail m)), tt))

        to : (n : ℕ) → DueFirst (row a ++ (each_of row xs ∷ [])) n → DueFirst (each_of row (a ∷ xs) ∷ []) n
        to n d = elim ((due_append (row a) (each_of row xs ∷ []) n).0 d) [
          | inl h ↦ inl (broken_here h)
          | inr h ↦ elim h.1 [ inl k ↦ inl (broken_later h.0 k) | inr k ↦ absurd k.1 ]
        ]

        from : (n : ℕ) → DueFirst (each_of row (a ∷ xs) ∷ []) n → DueFirst (row a ++ (each_of row xs ∷ [])) n
        from n d = (due_append (row a) (each_of row xs ∷ []) n).1 (elim d [
          | inl h ↦ elim (broken_split h) [ inl k ↦ inl k | inr k ↦ inr (k.0, inl k.1) ]
          | inr h ↦ absurd h.1
        ])
