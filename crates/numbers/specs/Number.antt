-- A number's bytes: groups of seven bits, lowest first, the high bit of a byte set if another follows.
use Rattle.std.specs.Prelude.{◌≡◌, ℕ, zero, suc, ◌+◌, ◌-◌, ◌*◌, ◌/◌, ◌%◌, ◌^◌, ◌<◌, ◌≤◌, cond, List, [], ◌∷◌, ◌++◌, length, take, drop, nat_lt, slice_index, slice_index_or}

-- the number that bytes say: seven bits of each, lowest first
unfoldable pub value_of : List ℕ → ℕ
value_of [] = 0
value_of (b ∷ bs) = b % 128 + 128 * value_of bs

-- how many numbers f groups hold, where the last group holds four bits: 2 ^ 32 for five
unfoldable pub bound : ℕ → ℕ
bound zero = 0
bound (suc zero) = 16
bound (suc (suc f)) = 128 * bound (suc f)

-- each byte from `at` up to p says that another follows
abbrev pub Goes : List ℕ → ℕ → ℕ → Type 0
Goes bytes at p = (i : ℕ) → at ≤ i → i < p → 128 ≤ slice_index bytes i

-- the byte at p belongs to the number of at most f groups that is due at `at`
pub record Reaches (f : ℕ) (bytes : List ℕ) (at p : ℕ) : Type 0 where
  pub low : at ≤ p
  pub high : p < at + f
  pub within : p < length bytes
  pub goes : Goes bytes at p

-- the bytes from `at` to p say v in at most f groups
pub record Stands (f : ℕ) (bytes : List ℕ) (at v p : ℕ) : Type 0 where
  pub reaches : Reaches f bytes at p
  pub stops : slice_index_or bytes p 0 < 128
  pub says : v ≡ value_of (take (p + 1 - at) (drop at bytes))
  pub small : v < bound f

-- no byte could be left out: the last group of several is not 0
abbrev pub Shortest : List ℕ → ℕ → ℕ → Type 0
Shortest bytes at p = at < p → 0 < slice_index bytes p

-- a number as it is written, in at most f groups and in the fewest bytes
unfoldable pub encoded_by : ℕ → ℕ → List ℕ
encoded_by zero n = []
encoded_by (suc f) n = cond (nat_lt n 128) (n ∷ []) ((128 + n % 128) ∷ encoded_by f (n / 128))

-- a number of 32 bits as it is written
abbrev pub encoded : ℕ → List ℕ
encoded n = encoded_by 5 n

-- the number v stands at `at`, as it is written, and what follows begins at `next`
pub record Number (bytes : List ℕ) (at v next : ℕ) : Type 0 where
  pub p : ℕ
  pub stands : Stands 5 bytes at v p
  pub shortest : Shortest bytes at p
  pub after : next ≡ p + 1
  pub small : v < 2 ^ 32
  pub begins : drop at bytes ≡ encoded v ++ drop next bytes
  pub ends : next ≡ at + length (encoded v)
  pub within : next ≤ length bytes
