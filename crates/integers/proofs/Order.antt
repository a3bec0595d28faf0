-- The order of ℤ (`◌≤ℤ◌`, `◌<ℤ◌` of lib.Signed): its laws, and inequalities of polynomials, proved from a certificate.
--
--   ≤-refl, ≤_trans, ≤_antisym, ≤-or-<, compared                  : a total order
--   eq_z_eq, eq_eq_z                                                  : equality, by its test
--   ≤_of_<, <_trans, ≤-<_trans, <-≤_trans, <-≤_clash                : `<` beside it
--   ≤_to_nn, nn_to_≤, <_to_≤, ≤_to_<, pos_le, le_pos                : a ≤ b as 0 ≤ b - a, a < b as a + 1 ≤ b, and naturals
--   neg_mono, *-pos, ≤_cancel, <_cancel, ≡_cancel                   : products, and a factor that cancels
--   sum_squares_zero                                                : squares
--   nonneg, positive, clash, nonneg_by                              : any inequality, from a certificate (below)
--
-- `◌≤ℤ◌` binds tighter than `◌+ℤ◌` (infix 50, against 6): `a +ℤ b ≤ℤ c` is refused, and `(a +ℤ b) ≤ℤ c` is meant. `◌≼◌` and `◌≺◌` of specs/Order are
-- the same two orders, and bind as one expects: `a +ℤ b ≼ c`.
use mathlib.Core.Path.{◌≡◌, refl, sym, ◌∙◌, ap, ap₂, subst}
use mathlib.Core.List.{List, [], ◌∷◌}
use mathlib.Core.Logic.{◌≢◌, ◌⊎◌, inl, inr}
use mathlib.Core.Bool.{Bool, true, false, not}
use Prim.Native.Nat.{ℕ, zero, suc, ◌+◌, ◌*◌, ◌-◌, ◌≤◌, zero-le}
use native.Mathlib.Nat.{le_trans, le_antisymm}
use native.Mathlib.Omega.{arith}
use lib.Dec.{T, leb→le, le→leb, leb-zero, leb-suc-zero, leb-suc-suc}
use lib.IntN.{ℤ, pos, negsuc, neg_ℤ, suc_ℤ, ◌+ℤ◌, ◌-ℤ◌, ◌*ℤ◌, +ℤ_one, +ℤ-suc_ℤ}
use lib.Signed.{le_z, lt_z, ◌≤ℤ◌, ◌<ℤ◌, lt_z_no, ≤ℤ_refl}
use Rattle.integers.specs.Order.{eq_z}
use Rattle.integers.proofs.Tests.{and_left, and_right, both, test_true, true_test}
use Rattle.integers.proofs.Laws.{+_assoc, +-zero, zero-+, neg_+, eq_of_sub}
use Rattle.integers.proofs.Abs.{zero_product, square_zero}
use Rattle.integers.proofs.Ring.{Sides, Same, poly, ring, linear, eqn}

-- ---- naturals among the integers

pub pos_le : {m n : ℕ} → m ≤ n → pos m ≤ℤ pos n
pos_le {m} {n} h = record { le = le→leb m n h }

pub le_pos : {m n : ℕ} → pos m ≤ℤ pos n → m ≤ n
le_pos {m} {n} h = leb→le m n h.le

pub nn_nat : (n : ℕ) → pos 0 ≤ℤ pos n
nn_nat n = pos_le zero-le

-- ---- the order is total

le_tr : (a b c : ℤ) → T (le_z a b) → T (le_z b c) → T (le_z a c)
le_tr (pos a) (pos b) (pos c) h k = le→leb a c (le_trans (leb→le a b h) (leb→le b c k))
le_tr (pos a) (pos b) (negsuc c) h k = absurd k
le_tr (pos a) (negsuc b) c h k = absurd h
le_tr (negsuc a) (pos b) (pos c) h k = tt
le_tr (negsuc a) (pos b) (negsuc c) h k = absurd k
le_tr (negsuc a) (negsuc b) (pos c) h k = tt
le_tr (negsuc a) (negsuc b) (negsuc c) h k = le→leb c a (le_trans (leb→le c b k) (leb→le b a h))

pub ≤-refl : (a : ℤ) → a ≤ℤ a
≤-refl = ≤ℤ_refl

pub ≤_trans : {a b c : ℤ} → a ≤ℤ b → b ≤ℤ c → a ≤ℤ c
≤_trans {a} {b} {c} h k = record { le = le_tr a b c h.le k.le }

pub ≤_of_eq : {a b : ℤ} → a ≡ b → a ≤ℤ b
≤_of_eq {a} e = subst (λ (x : ℤ). a ≤ℤ x) e (≤-refl a)

le_anti : (a b : ℤ) → T (le_z a b) → T (le_z b a) → a ≡ b
le_anti (pos a) (pos b) h k = ap pos (le_antisymm (leb→le a b h) (leb→le b a k))
le_anti (pos a) (negsuc b) h k = absurd h
le_anti (negsuc a) (pos b) h k = absurd k
le_anti (negsuc a) (negsuc b) h k = ap negsuc (le_antisymm (leb→le a b k) (leb→le b a h))

pub ≤_antisym : {a b : ℤ} → a ≤ℤ b → b ≤ℤ a → a ≡ b
≤_antisym {a} {b} h k = le_anti a b h.le k.le

pub eq_z_eq : (a b : ℤ) → T (eq_z a b) → a ≡ b
eq_z_eq a b t = ≤_antisym (record { le = and_left (le_z a b) (le_z b a) t }) (record { le = and_right (le_z a b) (le_z b a) t })

pub eq_eq_z : (a b : ℤ) → a ≡ b → T (eq_z a b)
eq_eq_z a b e = subst (λ (z : ℤ). T (eq_z a z)) e (true_test (both (test_true (le_z a a) (≤-refl a).le) (test_true (le_z a a) (≤-refl a).le)))

pub ≤-or-< : (a b : ℤ) → (a ≤ℤ b) ⊎ (b <ℤ a)
≤-or-< a b = go (lt_z b a) (λ t. record { lt = t }) (λ t. lt_z_no t)
  where
    go : (c : Bool) → (T c → b <ℤ a) → (T (not c) → a ≤ℤ b) → (a ≤ℤ b) ⊎ (b <ℤ a)
    go true f g = inr (f tt)
    go false f g = inl (g tt)

-- ---- `<` is `≤` of the successor

lt_le_suc : (a b : ℤ) → lt_z a b ≡ le_z (suc_ℤ a) b
lt_le_suc (pos a) (pos b) = refl
lt_le_suc (pos a) (negsuc b) = refl
lt_le_suc (negsuc zero) (pos b) = sym (leb-zero b)
lt_le_suc (negsuc (suc a)) (pos b) = refl
lt_le_suc (negsuc zero) (negsuc b) = leb-suc-zero b
lt_le_suc (negsuc (suc a)) (negsuc b) = leb-suc-suc b a

pub <_to_≤ : {a b : ℤ} → a <ℤ b → (a +ℤ pos 1) ≤ℤ b
<_to_≤ {a} {b} h = subst (λ (x : ℤ). x ≤ℤ b) (sym (+ℤ_one a)) (record { le = subst T (lt_le_suc a b) h.lt })

pub ≤_to_< : {a b : ℤ} → (a +ℤ pos 1) ≤ℤ b → a <ℤ b
≤_to_< {a} {b} h = record { lt = subst T (sym (lt_le_suc a b)) (subst (λ (x : ℤ). x ≤ℤ b) (+ℤ_one a) h).le }

-- ---- a ≤ b, as b ≡ a + n for a natural n

split : (a b : ℤ) → T (le_z a b) → (n : ℕ) × (b ≡ a +ℤ pos n)
split (pos a) (pos b) t = (b - a, ap pos (whole (leb→le a b t)))
  where
    whole : a ≤ b → b ≡ a + (b - a)
    whole h = omega arith
split (pos a) (negsuc b) t = absurd t
split (negsuc a) (pos b) t =
    (suc a + b, sym (sym (+_assoc (negsuc a) (pos (suc a)) (pos b)) ∙ ap (λ (x : ℤ). x +ℤ pos b) (neg_+ (pos (suc a))) ∙ zero-+ (pos b)))
split (negsuc a) (negsuc b) t = (a - b, go (a - b) (whole (leb→le b a t)))
  where
    whole : b ≤ a → a ≡ b + (a - b)
    whole h = omega arith

    go : (k : ℕ) → a ≡ b + k → negsuc b ≡ negsuc a +ℤ pos k
    go zero e = ap negsuc (none e) ∙ sym (+-zero (negsuc a))
      where
        none : a ≡ b + 0 → b ≡ a
        none e = omega arith
    go (suc k) e =
        sym (
        ap (λ (n : ℕ). negsuc n +ℤ pos (suc k)) (some e)
        ∙ +_assoc (negsuc b) (negsuc k) (pos (suc k))
        ∙ ap (λ (x : ℤ). negsuc b +ℤ x) (neg_+ (pos (suc k)))
        ∙ +-zero (negsuc b)
        )
      where
        some : a ≡ b + suc k → a ≡ suc (b + k)
        some e = omega arith

le_next : (a : ℤ) → T (le_z a (suc_ℤ a))
le_next (pos n) = le→leb n (suc n) (omega arith)
le_next (negsuc zero) = tt
le_next (negsuc (suc n)) = le→leb n (suc n) (omega arith)

pub ≤_add_nat : (a : ℤ) (n : ℕ) → a ≤ℤ (a +ℤ pos n)
≤_add_nat a zero = ≤_of_eq (sym (+-zero a))
≤_add_nat a (suc n) = ≤_trans (≤_add_nat a n) (subst (λ (x : ℤ). (a +ℤ pos n) ≤ℤ x) (sym (+ℤ-suc_ℤ a (pos n))) (record { le = le_next (a +ℤ pos n) }))

-- a ≤ b is 0 ≤ b - a
pub ≤_to_nn : {a b : ℤ} → a ≤ℤ b → pos 0 ≤ℤ (b -ℤ a)
≤_to_nn {a} {b} h = let s = split a b h.le in subst (λ (x : ℤ). pos 0 ≤ℤ x) (sym (diff s.0 s.1)) (nn_nat s.0)
  where
    diff : (n : ℕ) → b ≡ a +ℤ pos n → b -ℤ a ≡ pos n
    diff n e = linear (a ∷ b ∷ pos n ∷ []) (eqn (pos 1) e) (search poly depth 30) tt

-- a natural number, where 0 ≤ a
pub nn_is : {a : ℤ} → pos 0 ≤ℤ a → (n : ℕ) × (a ≡ pos n)
nn_is {a = pos n} h = (n, refl)
nn_is {a = negsuc n} h = absurd h.le

pub nn_to_≤ : {a b : ℤ} → pos 0 ≤ℤ (b -ℤ a) → a ≤ℤ b
nn_to_≤ {a} {b} h = let s = nn_is h in subst (λ (x : ℤ). a ≤ℤ x) (sym (back s.0 s.1)) (≤_add_nat a s.0)
  where
    back : (n : ℕ) → b -ℤ a ≡ pos n → b ≡ a +ℤ pos n
    back n e = linear (a ∷ b ∷ pos n ∷ []) (eqn (pos 1) e) (search poly depth 30) tt

-- ---- not negative: the terms that a certificate is made of

infixl 6 ◌⊞◌
infixl 7 ◌⊠◌
-- a sum and a product of two
pub ◌⊞◌ : {s t : ℤ} → pos 0 ≤ℤ s → pos 0 ≤ℤ t → pos 0 ≤ℤ (s +ℤ t)
◌⊞◌ {s} {t} h k = let m = nn_is h in let n = nn_is k in subst (λ (x : ℤ). pos 0 ≤ℤ x) (sym (ap₂ ◌+ℤ◌ m.1 n.1)) (nn_nat (m.0 + n.0))

pub ◌⊠◌ : {s t : ℤ} → pos 0 ≤ℤ s → pos 0 ≤ℤ t → pos 0 ≤ℤ (s *ℤ t)
◌⊠◌ {s} {t} h k = let m = nn_is h in let n = nn_is k in subst (λ (x : ℤ). pos 0 ≤ℤ x) (sym (ap₂ ◌*ℤ◌ m.1 n.1)) (nn_nat (m.0 * n.0))

-- a square
pub sq : (a : ℤ) → pos 0 ≤ℤ (a *ℤ a)
sq (pos n) = nn_nat (n * n)
sq (negsuc n) = nn_nat (suc n * suc n)

-- a numeral, as a fact and as a factor
pub nn : (n : ℕ) → pos 0 ≤ℤ pos n
nn = nn_nat

-- an inequality, a strict one, and a multiple of an equation
pub le : {a b : ℤ} → a ≤ℤ b → pos 0 ≤ℤ (b -ℤ a)
le = ≤_to_nn

pub lt : {a b : ℤ} → a <ℤ b → pos 0 ≤ℤ (b -ℤ (a +ℤ pos 1))
lt h = ≤_to_nn (<_to_≤ h)

pub eq : (c : ℤ) {a b : ℤ} → a ≡ b → pos 0 ≤ℤ (c *ℤ (a -ℤ b))
eq c e = ≤_of_eq (sym (eqn c e))

-- ---- an inequality, from a certificate: the difference is a sum of products of what is not negative
-- `nonneg (a ∷ b ∷ []) (le h ⊠ le k ⊞ sq (a -ℤ b)) (search poly depth 30) tt` proves x ≤ y where y - x is (b₁ - a₁)(b₂ - a₂) + (a - b)²
-- as a polynomial, h : a₁ ≤ b₁, k : a₂ ≤ b₂. The parts: `le h`, `lt h`, `eq c e`, `sq a`, `nn n`, and a fact 0 ≤ s itself

pub nonneg : (ρ : List ℤ) {x y s : ℤ} → pos 0 ≤ℤ s → (q : Sides ρ (y -ℤ x) s) → Same q → x ≤ℤ y
nonneg ρ h q t = nn_to_≤ (subst (λ (z : ℤ). pos 0 ≤ℤ z) (sym (ring ρ q t)) h)

pub positive : (ρ : List ℤ) {x y s : ℤ} → pos 0 ≤ℤ s → (q : Sides ρ (y -ℤ (x +ℤ pos 1)) s) → Same q → x <ℤ y
positive ρ h q t = ≤_to_< (nonneg ρ h q t)

-- the facts clash: -1 is a sum of products of what is not negative
pub clash : (ρ : List ℤ) {X : Type 0} {s : ℤ} → pos 0 ≤ℤ s → (q : Sides ρ (negsuc 0) s) → Same q → X
clash ρ h q t = absurd (subst (λ (z : ℤ). pos 0 ≤ℤ z) (sym (ring ρ q t)) h).le

-- ---- laws

pub neg_mono : {a b : ℤ} → a ≤ℤ b → neg_ℤ b ≤ℤ neg_ℤ a
neg_mono {a} {b} h = nonneg (a ∷ b ∷ []) (le h) (search poly depth 30) tt

pub ≤_of_< : {a b : ℤ} → a <ℤ b → a ≤ℤ b
≤_of_< {a} {b} h = nonneg (a ∷ b ∷ []) (lt h ⊞ nn 1) (search poly depth 30) tt

pub <_trans : {a b c : ℤ} → a <ℤ b → b <ℤ c → a <ℤ c
<_trans {a} {b} {c} h k = positive (a ∷ b ∷ c ∷ []) (lt h ⊞ lt k ⊞ nn 1) (search poly depth 30) tt

pub ≤-<_trans : {a b c : ℤ} → a ≤ℤ b → b <ℤ c → a <ℤ c
≤-<_trans {a} {b} {c} h k = positive (a ∷ b ∷ c ∷ []) (le h ⊞ lt k) (search poly depth 30) tt

pub <-≤_trans : {a b c : ℤ} → a <ℤ b → b ≤ℤ c → a <ℤ c
<-≤_trans {a} {b} {c} h k = positive (a ∷ b ∷ c ∷ []) (lt h ⊞ le k) (search poly depth 30) tt

pub <-≤_clash : {X : Type 0} {a b : ℤ} → a <ℤ b → b ≤ℤ a → X
<-≤_clash {X} {a} {b} h k = clash (a ∷ b ∷ []) (lt h ⊞ le k) (search poly depth 30) tt

pub *-pos : {a b : ℤ} → pos 0 <ℤ a → pos 0 <ℤ b → pos 0 <ℤ (a *ℤ b)
*-pos {a} {b} h k = positive (a ∷ b ∷ []) (lt h ⊠ lt k ⊞ lt h ⊞ lt k) (search poly depth 30) tt

-- three cases, and decisions
pub data Compared (a b : ℤ) : Type 0 where
  less : a <ℤ b → Compared a b
  same : a ≡ b → Compared a b
  more : b <ℤ a → Compared a b

pub compared : (a b : ℤ) → Compared a b
compared a b = go (≤-or-< a b) (≤-or-< b a)
  where
    go : (a ≤ℤ b) ⊎ (b <ℤ a) → (b ≤ℤ a) ⊎ (a <ℤ b) → Compared a b
    go (inl h) (inl k) = same (≤_antisym h k)
    go (inl h) (inr k) = less k
    go (inr h) k = more h

-- a positive factor cancels
pub ≤_cancel : {k a b : ℤ} → pos 0 <ℤ k → (k *ℤ a) ≤ℤ (k *ℤ b) → a ≤ℤ b
≤_cancel {k} {a} {b} p h = go (≤-or-< a b)
  where
    go : (a ≤ℤ b) ⊎ (b <ℤ a) → a ≤ℤ b
    go (inl l) = l
    go (inr g) = clash (k ∷ a ∷ b ∷ []) (le h ⊞ lt p ⊠ lt g ⊞ lt p ⊞ lt g) (search poly depth 30) tt

pub <_cancel : {k a b : ℤ} → pos 0 <ℤ k → (k *ℤ a) <ℤ (k *ℤ b) → a <ℤ b
<_cancel {k} {a} {b} p h = go (≤-or-< b a)
  where
    go : (b ≤ℤ a) ⊎ (a <ℤ b) → a <ℤ b
    go (inl l) = clash (k ∷ a ∷ b ∷ []) (lt h ⊞ lt p ⊠ le l ⊞ le l) (search poly depth 30) tt
    go (inr g) = g

pub ≡_cancel : {k a b : ℤ} → k ≢ pos 0 → k *ℤ a ≡ k *ℤ b → a ≡ b
≡_cancel {k} {a} {b} n e = go (zero_product k (a -ℤ b) (linear (k ∷ a ∷ b ∷ []) (eqn (pos 1) e) (search poly depth 30) tt))
  where
    go : (k ≡ pos 0) ⊎ (a -ℤ b ≡ pos 0) → a ≡ b
    go (inl z) = absurd (n z)
    go (inr z) = eq_of_sub a b z

-- the same with a factor that is positive: k * (y - x) is such a sum
pub nonneg_by : (ρ : List ℤ) (k : ℤ) {x y s : ℤ} → pos 0 <ℤ k → pos 0 ≤ℤ s → (q : Sides ρ (k *ℤ (y -ℤ x)) s) → Same q → x ≤ℤ y
nonneg_by ρ k {x} {y} p h q t = ≤_cancel p (nn_to_≤ (subst (λ (z : ℤ). pos 0 ≤ℤ z) (sym (ring ρ q t) ∙ spread) h))
  where
    spread : k *ℤ (y -ℤ x) ≡ k *ℤ y -ℤ k *ℤ x
    spread = ring (k ∷ x ∷ y ∷ []) (search poly depth 30) tt

-- squares
pub sum_squares_zero : (a b : ℤ) → a *ℤ a +ℤ b *ℤ b ≡ pos 0 → (a ≡ pos 0) × (b ≡ pos 0)
sum_squares_zero a b e = (square_zero a (≤_antisym left (sq a)), square_zero b (≤_antisym right (sq b)))
  where
    left : (a *ℤ a) ≤ℤ pos 0
    left = nonneg (a ∷ b ∷ []) (sq b ⊞ eq (negsuc 0) e) (search poly depth 30) tt

    right : (b *ℤ b) ≤ℤ pos 0
    right = nonneg (a ∷ b ∷ []) (sq a ⊞ eq (negsuc 0) e) (search poly depth 30) tt
