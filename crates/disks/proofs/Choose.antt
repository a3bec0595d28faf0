-- The sets of k points of a rising list, in lexical order: laws of `choose`.
--
--   Among T cs         == T is one of the sets cs
--   Later R cs         == every set of cs stands in R to all after it
--   choose-length, choose_in, choose_rises : each set chosen from a rising Q has k points, of Q, and rises
--   choose_all         : every rising list of points of Q is chosen
--   choose_lexical     : the sets are in lexical order
use mathlib.Core.Path.{◌≡◌, refl, sym, ◌∙◌, ap, subst}
use mathlib.Core.Logic.{◌⊎◌, inl, inr}
use mathlib.Core.List.Memᴰ
use mathlib.Core.List.{List, [], ◌∷◌, ◌++◌, Memᴰ}
use Prim.Native.Nat.{ℕ, zero, suc}
use native.Mathlib.Omega.{arith}
use lib.Dec as D
use lib.ListN.{length}
use Rattle.geometry.specs.declared.Point.{Point}
use Rattle.geometry.specs.Order.{before}
use Rattle.point_lists.specs.Rising.{Rising}
use Rattle.point_lists.specs.Sets.{In}
use Rattle.point_lists.proofs.Sets.{also}
use Rattle.point_lists.proofs.Order.{before_trans, before_not_equal}
use Rattle.disks.specs.Support.{fronted, choose}
use Rattle.disks.specs.FirstSupport.{Lexical, here, there}

abbrev pub Among : List Point → List (List Point) → Type 0
Among T cs = Memᴰ T cs

pub record Fronted (p : Point) (cs : List (List Point)) (T : List Point) : Type 0 where
  pub rest : List Point
  pub is : T ≡ p ∷ rest
  pub among : Among rest cs

pub fronted_in : (p : Point) (cs : List (List Point)) {T : List Point} → Among T (fronted p cs) → Fronted p cs T
unfolding fronted
fronted_in p [] i = absurd (Memᴰ.not-nil i)
fronted_in p (S ∷ cs) {T} i = go (λ k. fronted_in p cs k) (Memᴰ.cases_cons i)
  where
    go : (Among T (fronted p cs) → Fronted p cs T) → (T ≡ p ∷ S) ⊎ Among T (fronted p cs) → Fronted p (S ∷ cs) T
    go f (inl e) = record { rest = S; is = e; among = Memᴰ.head refl }
    go f (inr k) = let r = f k in record { rest = r.rest; is = r.is; among = Memᴰ.tail r.among }

pub in_fronted : (p : Point) (cs : List (List Point)) {T : List Point} → Among T cs → Among (p ∷ T) (fronted p cs)
unfolding fronted
in_fronted p [] i = absurd (Memᴰ.not-nil i)
in_fronted p (S ∷ cs) {T} i = go (λ k. in_fronted p cs k) (Memᴰ.cases_cons i)
  where
    go : (Among T cs → Among (p ∷ T) (fronted p cs)) → (T ≡ S) ⊎ Among T cs → Among (p ∷ T) ((p ∷ S) ∷ fronted p cs)
    go f (inl e) = Memᴰ.head (ap (λ (l : List Point). p ∷ l) e)
    go f (inr k) = Memᴰ.tail (f k)

-- ---- what is chosen

pub choose-length : (k : ℕ) (Q : List Point) (T : List Point) → Among T (choose k Q) → length T ≡ k
unfolding choose
choose-length zero Q T i = go (Memᴰ.cases_cons i)
  where
    go : (T ≡ []) ⊎ Among T [] → length T ≡ 0
    go (inl e) = ap length e
    go (inr k) = absurd (Memᴰ.not-nil k)
choose-length (suc k) [] T i = absurd (Memᴰ.not-nil i)
choose-length (suc k) (p ∷ Q) T i = go (λ S j. choose-length k Q S j) (λ j. choose-length (suc k) Q T j)
    (Memᴰ.append_cases (fronted p (choose k Q)) i)
  where
    go : ((S : List Point) → Among S (choose k Q) → length S ≡ k) → (Among T (choose (suc k) Q) → length T ≡ suc k)
        → Among T (fronted p (choose k Q)) ⊎ Among T (choose (suc k) Q) → length T ≡ suc k
    go f g (inl j) = let r = fronted_in p (choose k Q) j in ap length r.is ∙ ap suc (f r.rest r.among)
    go f g (inr j) = g j

pub choose_in : (k : ℕ) (Q : List Point) (T : List Point) → Among T (choose k Q) → (x : Point) → In x T → In x Q
unfolding choose
choose_in zero Q T i x m = go (Memᴰ.cases_cons i)
  where
    go : (T ≡ []) ⊎ Among T [] → In x Q
    go (inl e) = absurd (Memᴰ.not-nil (subst (λ (l : List Point). In x l) e m))
    go (inr k) = absurd (Memᴰ.not-nil k)
choose_in (suc k) [] T i x m = absurd (Memᴰ.not-nil i)
choose_in (suc k) (p ∷ Q) T i x m = go (λ S j n. choose_in k Q S j x n) (λ j. choose_in (suc k) Q T j x m)
    (Memᴰ.append_cases (fronted p (choose k Q)) i)
  where
    front : (S : List Point) → (In x S → In x Q) → (x ≡ p) ⊎ In x S → In x (p ∷ Q)
    front S f (inl e) = Memᴰ.head e
    front S f (inr n) = Memᴰ.tail (f n)

    go : ((S : List Point) → Among S (choose k Q) → In x S → In x Q) → (Among T (choose (suc k) Q) → In x Q)
        → Among T (fronted p (choose k Q)) ⊎ Among T (choose (suc k) Q) → In x (p ∷ Q)
    go f g (inl j) = let r = fronted_in p (choose k Q) j in front r.rest (f r.rest r.among)
        (Memᴰ.cases_cons (subst (λ (l : List Point). In x l) r.is m))
    go f g (inr j) = Memᴰ.tail (g j)

pub choose_rises : (k : ℕ) (Q : List Point) → Rising Q → (T : List Point) → Among T (choose k Q) → Rising T
unfolding choose
choose_rises zero Q r T i = go (Memᴰ.cases_cons i)
  where
    go : (T ≡ []) ⊎ Among T [] → Rising T
    go (inl e) = subst Rising (sym e) tt
    go (inr k) = absurd (Memᴰ.not-nil k)
choose_rises (suc k) [] r T i = absurd (Memᴰ.not-nil i)
choose_rises (suc k) (p ∷ Q) r T i = go (λ S j. choose_rises k Q r.1 S j) (λ j. choose_rises (suc k) Q r.1 T j)
    (Memᴰ.append_cases (fronted p (choose k Q)) i)
  where
    front : (S : List Point) → Among S (choose k Q) → Rising S → Rising (p ∷ S)
    front S j s = (λ x m. r.0 x (choose_in k Q S j x m), s)

    go : ((S : List Point) → Among S (choose k Q) → Rising S) → (Among T (choose (suc k) Q) → Rising T)
        → Among T (fronted p (choose k Q)) ⊎ Among T (choose (suc k) Q) → Rising T
    go f g (inl j) = let w = fronted_in p (choose k Q) j in subst Rising (sym w.is) (front w.rest w.among (f w.rest w.among))
    go f g (inr j) = g j

-- ---- every rising list is chosen

pub choose_all : (Q : List Point) → Rising Q → (T : List Point) → Rising T → ((x : Point) → In x T → In x Q) → Among T (choose (length T) Q)
unfolding choose
choose_all [] r [] t f = Memᴰ.head refl
choose_all (p ∷ Q) r [] t f = Memᴰ.head refl
choose_all [] r (a ∷ T) t f = absurd (Memᴰ.not-nil (f a (Memᴰ.head refl)))
choose_all (p ∷ Q) r (a ∷ T) t f = go (λ S s g. choose_all Q r.1 S s g) (Memᴰ.cases_cons (f a (Memᴰ.head refl)))
  where
    -- behind a, and so behind p: in Q
    behind : (x : Point) → D.T (before p x) → (x ≡ p) ⊎ In x Q → In x Q
    behind x h (inl e) = absurd (before_not_equal p x h (sym e))
    behind x h (inr m) = m

    beyond : (x : Point) → In x T → D.T (before p x) → In x Q
    beyond x m h = behind x h (Memᴰ.cases_cons (f x (Memᴰ.tail m)))

    go : ((S : List Point) → Rising S → ((x : Point) → In x S → In x Q) → Among S (choose (length S) Q)) → (a ≡ p) ⊎ In a Q
        → Among (a ∷ T) (fronted p (choose (length T) Q) ++ choose (suc (length T)) Q)
    go h (inl e) = Memᴰ.append_left (choose (suc (length T)) Q)
        (Memᴰ.cast (ap (λ (q : Point). q ∷ T) e)
        (in_fronted p (choose (length T) Q) (h T t.1 (λ x m. beyond x m (subst (λ (q : Point). D.T (before q x)) e (t.0 x m))))))
    go h (inr m) = Memᴰ.append_right (fronted p (choose (length T) Q))
        (h (a ∷ T) t (also (λ x. In x Q) m (λ x n. beyond x n (before_trans p a x (r.0 a m) (t.0 x n)))))

-- ---- the order

abbrev pub Later : (List Point → List Point → Type 0) → List (List Point) → Type 0
Later R [] = Unit {0}
Later R (T ∷ cs) = ((S : List Point) → Among S cs → R T S) × Later R cs

pub later_append : (R : List Point → List Point → Type 0) (cs ds : List (List Point)) → Later R cs → Later R ds
    → ((T S : List Point) → Among T cs → Among S ds → R T S) → Later R (cs ++ ds)
later_append R [] ds c d f = d
later_append R (T ∷ cs) ds c d f = (λ S i. go S (Memᴰ.append_cases cs i), later_append R cs ds c.1 d (λ A B i j. f A B (Memᴰ.tail i) j))
  where
    go : (S : List Point) → Among S cs ⊎ Among S ds → R T S
    go S (inl i) = c.0 S i
    go S (inr j) = f T S (Memᴰ.head refl) j

fronted_lexical : (p : Point) (cs : List (List Point)) → Later Lexical cs → Later Lexical (fronted p cs)
unfolding fronted
fronted_lexical p [] c = tt
fronted_lexical p (T ∷ cs) c = (
  λ S i. let r = fronted_in p cs i in subst (Lexical (p ∷ T)) (sym r.is)
      (there refl (c.0 r.rest r.among)),
  fronted_lexical p cs c.1,
)

-- p is before the head of every list of k + 1 points of Q
before_head : (p : Point) (Q : List Point) → ((q : Point) → In q Q → D.T (before p q)) → (S T : List Point) → (n : ℕ) → length T ≡ suc n
    → ((x : Point) → In x T → In x Q) → Lexical (p ∷ S) T
before_head p Q f S [] n e g = absurd (never n e)
  where
    never : (n : ℕ) → 0 ≡ suc n → ⊥
    never n e = omega arith
before_head p Q f S (q ∷ T) n e g = here (f q (g q (Memᴰ.head refl)))

pub choose_lexical : (k : ℕ) (Q : List Point) → Rising Q → Later Lexical (choose k Q)
unfolding choose
choose_lexical zero Q r = (λ S i. absurd (Memᴰ.not-nil i), tt)
choose_lexical (suc k) [] r = tt
choose_lexical (suc k) (p ∷ Q) r = later_append Lexical (fronted p (choose k Q)) (choose (suc k) Q)
    (fronted_lexical p (choose k Q) (choose_lexical k Q r.1)) (choose_lexical (suc k) Q r.1)
    (λ T S i j. let w = fronted_in p (choose k Q) i in subst (λ (l : List Point). Lexical l S) (sym w.is)
    (before_head p Q r.0 w.rest S k (choose-length (suc k) Q S j) (choose_in (suc k) Q S j)))
