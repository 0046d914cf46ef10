-- A mask below 2 ^ 32 comes back from its elements.
use Rattle.std.specs.Prelude.{◌≡◌, ℕ, zero, suc, ◌+◌, ◌*◌, ◌%◌, ◌^◌, ◌<◌, [], ◌∷◌, filter, ◌==◌, cond}
use Rattle.std.specs.Int.{bit_at}
use Rattle.std.proofs.Common.{ap, ◌∙◌, arith}
use Rattle.std.proofs.lemmas.List.Elements.{filter-append}
use Rattle.std.proofs.lemmas.List.Sums.{sum_by-append}
use Rattle.std.proofs.lemmas.Nat.{mod-pow-add}
use Rattle.std.proofs.lemmas.Nat.Bits.{bit_at-lt}
use Rattle.std.proofs.Math.Nat.{mod-eq_of_lt}
use Rattle.mr_set.specs.Elements.{numbers_below, elements_below, mask_of}
use Rattle.mr_set.specs.declared.set.Set.TheInside.{Inside}

-- one bit
single : (b n : ℕ) → b < 2 → mask_of (cond (b == 1) (n ∷ []) []) ≡ b * 2 ^ n
single zero n small = omega arith
single (suc zero) n small = omega arith
single (suc (suc b)) n small = absurd (omega arith)

-- one more bit
pub digit : (mask n : ℕ) → mask % 2 ^ suc n ≡ bit_at mask n * 2 ^ n + mask % 2 ^ n
digit mask n = ap (λ k. mask % 2 ^ k) (let e : suc n ≡ 1 + n = omega arith in e) ∙ mod-pow-add mask 1 n

-- the sum over the elements below n is what stands in the lowest n bits
mask_of_low : (n mask : ℕ) → mask_of (filter (λ e. bit_at mask e == 1) (numbers_below n)) ≡ mask % 2 ^ n
mask_of_low zero mask = omega arith
mask_of_low (suc n) mask =
    ap mask_of (filter-append (λ e. bit_at mask e == 1) (numbers_below n) (n ∷ []))
    ∙ sum_by-append (λ e. 2 ^ e) (filter (λ e. bit_at mask e == 1) (numbers_below n)) (filter (λ e. bit_at mask e == 1) (n ∷ []))
    ∙ (let low = mask_of_low n mask in let high = single (bit_at mask n) n (bit_at-lt mask n) in let split = digit mask n in omega arith)

-- the mask of the elements of a mask
pub mask_of-elements_below : (mask : ℕ) → mask < 2 ^ 32 → mask_of (elements_below 32 mask) ≡ mask
unfolding elements_below
mask_of-elements_below mask small = mask_of_low 32 mask ∙ mod-eq_of_lt small

-- the set with a mask
abbrev pub inside : ℕ → Inside
inside mask = record { mask = mask }

-- so the set comes back
pub mask_again : (mask : ℕ) → mask < 2 ^ 32 → inside (mask_of (elements_below 32 mask)) ≡ inside mask
mask_again mask small = ap inside (mask_of-elements_below mask small)
