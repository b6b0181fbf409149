-- Lists over a range of numbers.
use Rattle.std.proofs.Common.{◌≡◌, ℕ, zero, suc, ◌<◌, ◌+◌, [], ◌∷◌, ◌++◌, Bool, true, false, map, refl, ap, ap₂, arith, add-zero, append-nil}
use Rattle.std.proofs.{lemmas.List.map-append, lemmas.List.Elements.filter-append}
use Rattle.std.specs.List.{range_with_len, filter}

pub range_append : (a m n : ℕ) → range_with_len a (m + n) ≡ range_with_len a m ++ range_with_len (a + m) n
range_append a zero n =
    let total : zero + n ≡ n = omega arith in
    let start : a + zero ≡ a = omega arith in
    rw (total, start) refl
range_append a (suc m) n =
    let total : suc m + n ≡ suc (m + n) = omega arith in
    let start : a + suc m ≡ a + 1 + m = omega arith in
    rw (total, start) (ap (λ xs. a ∷ xs) (range_append (a + 1) m n))

-- two ranges of one length, whose numbers are mapped to the same values one by one
pub map_range_same : {X : Type 0} (f g : ℕ → X) → (a b n : ℕ) → ((j : ℕ) → j < n → f (a + j) ≡ g (b + j))
    → map f (range_with_len a n) ≡ map g (range_with_len b n)
map_range_same f g a b zero same = refl
map_range_same f g a b (suc n) same =
    let front : f a ≡ g b = rw (add-zero, add-zero) at (same 0 (omega arith)) in
    ap₂ (λ x xs. x ∷ xs) front (map_range_same f g (a + 1) (b + 1) n (λ j h.
    let left : a + 1 + j ≡ a + (j + 1) = omega arith in
    let right : b + 1 + j ≡ b + (j + 1) = omega arith in
    rw (left, right) (same (j + 1) (omega arith))))

filter_keeps : {X : Type 0} (p : X → Bool) (f : ℕ → X) → (a n : ℕ) → ((j : ℕ) → j < n → p (f (a + j)) ≡ true)
    → filter p (map f (range_with_len a n)) ≡ map f (range_with_len a n)
filter_keeps p f a zero keeps = refl
filter_keeps p f a (suc n) keeps =
    let front : p (f a) ≡ true = rw add-zero at (keeps 0 (omega arith)) in
    rw front (ap (λ xs. f a ∷ xs) (filter_keeps p f (a + 1) n (λ j h.
    let place : a + 1 + j ≡ a + (j + 1) = omega arith in
    rw place (keeps (j + 1) (omega arith)))))

filter_drops : {X : Type 0} (p : X → Bool) (f : ℕ → X) → (a n : ℕ) → ((j : ℕ) → j < n → p (f (a + j)) ≡ false)
    → filter p (map f (range_with_len a n)) ≡ []
filter_drops p f a zero drops = refl
filter_drops p f a (suc n) drops =
    let front : p (f a) ≡ false = rw add-zero at (drops 0 (omega arith)) in
    rw front (filter_drops p f (a + 1) n (λ j h.
    let place : a + 1 + j ≡ a + (j + 1) = omega arith in
    rw place (drops (j + 1) (omega arith))))

-- a test that is false, then true, then false over three stretches leaves the middle one
pub filter_stretch : {X : Type 0} (p : X → Bool) (f : ℕ → X) → (x y z : ℕ)
    → ((n : ℕ) → n < x → p (f n) ≡ false)
    → ((n : ℕ) → n < y → p (f (x + n)) ≡ true)
    → ((n : ℕ) → n < z → p (f (x + y + n)) ≡ false)
    → filter p (map f (range_with_len 0 (x + y + z))) ≡ map f (range_with_len x y)
filter_stretch p f x y z before within behind =
    let zero_add : (n : ℕ) → 0 + n ≡ n = λ n. omega arith in
    rw (range_append 0 (x + y) z, range_append 0 x y, zero_add (x + y), zero_add x, map-append f, map-append f, filter-append p, filter-append p)
    (rw (filter_drops p f 0 x (λ n h. rw (zero_add n) (before n h)), filter_keeps p f x y within, filter_drops p f (x + y) z behind)
    (append-nil (map f (range_with_len x y))))
