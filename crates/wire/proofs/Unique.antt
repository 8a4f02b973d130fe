-- No second answer, and no second buffer, fits the contract of a read or a write: `Post` is what its own `ensures`
-- says, `a` its arguments, `s` its buffers when it returns. Assumes nothing.
use mathlib.Core.Path.{◌≡◌, sym, ◌∙◌}
use mathlib.Core.List.{List}
use Prim.Native.Nat.{ℕ, ◌*◌, ◌/◌, ◌<◌}
use native.Mathlib.Omega.{arith}
use lib.ListN.{length, get_or}
use lib.Seq.{ext_get_or}
use Rattle.wire.proofs.read.get8.Reads as get8
use Rattle.wire.proofs.read.get16.Reads as get16
use Rattle.wire.proofs.read.get32.Reads as get32
use Rattle.wire.proofs.read.get64.Reads as get64
use Rattle.wire.proofs.refusal.Refusal.number.Reads as number
use Rattle.wire.specs.contracts.fill.fill_bytes.F-Fn as bytes_filler
use Rattle.wire.specs.contracts.fill.fill_pairs.F-Fn as pairs_filler
use Rattle.wire.proofs.fill.fill_bytes.Reads as fill_bytes
use Rattle.wire.proofs.fill.fill_pairs.Reads as fill_pairs
use Rattle.wire.proofs.write.put8.Reads as put8
use Rattle.wire.proofs.write.put16.Reads as put16
use Rattle.wire.proofs.write.put32.Reads as put32
use Rattle.wire.specs.Bytes.{le}
use Rattle.wire.proofs.FillLaws.{pairs_same}

pub get8_unique : (κs : _) (a : _) (r₁ r₂ : ℕ) (s₁ s₂ : _) → get8.Post κs a r₁ s₁ → get8.Post κs a r₂ s₂ → r₁ ≡ r₂
get8_unique κs a r₁ r₂ s₁ s₂ p q = p ∙ sym q

pub get16_unique : (κs : _) (a : _) (r₁ r₂ : ℕ) (s₁ s₂ : _) → get16.Post κs a r₁ s₁ → get16.Post κs a r₂ s₂ → r₁ ≡ r₂
get16_unique κs a r₁ r₂ s₁ s₂ p q = p ∙ sym q

pub get32_unique : (κs : _) (a : _) (r₁ r₂ : ℕ) (s₁ s₂ : _) → get32.Post κs a r₁ s₁ → get32.Post κs a r₂ s₂ → r₁ ≡ r₂
get32_unique κs a r₁ r₂ s₁ s₂ p q = p ∙ sym q

pub get64_unique : (κs : _) (a : _) (r₁ r₂ : ℕ) (s₁ s₂ : _) → get64.Post κs a r₁ s₁ → get64.Post κs a r₂ s₂ → r₁ ≡ r₂
get64_unique κs a r₁ r₂ s₁ s₂ p q = p ∙ sym q

pub put8_unique : (κs : _) (a : _) (r₁ r₂ : _) (s₁ s₂ : _) → put8.Post κs a r₁ s₁ → put8.Post κs a r₂ s₂
    → s₁.0.now ≡ s₂.0.now
put8_unique κs a r₁ r₂ s₁ s₂ p q = p ∙ sym q

pub put16_unique : (κs : _) (a : _) (r₁ r₂ : _) (s₁ s₂ : _) → put16.Post κs a r₁ s₁ → put16.Post κs a r₂ s₂
    → s₁.0.now ≡ s₂.0.now
put16_unique κs a r₁ r₂ s₁ s₂ p q = p ∙ sym q

pub put32_unique : (κs : _) (a : _) (r₁ r₂ : _) (s₁ s₂ : _) → put32.Post κs a r₁ s₁ → put32.Post κs a r₂ s₂
    → s₁.0.now ≡ s₂.0.now
put32_unique κs a r₁ r₂ s₁ s₂ p q = p ∙ sym q

pub number_unique : (κs : _) (a : _) (r₁ r₂ : ℕ) (s₁ s₂ : _) → number.Post κs a r₁ s₁ → number.Post κs a r₂ s₂ → r₁ ≡ r₂
number_unique κs a r₁ r₂ s₁ s₂ p q = p ∙ sym q

-- ---- a buffer that is filled: by a closure with one answer at each place that it is asked for. That a buffer keeps its
-- length and holds bytes is every slice's; `T`, `L`, `F` and the four `d` are the closure's type and what its bound gives

-- what fits at each of the first n places is one number
abbrev pub OneAnswer : (ℕ → ℕ → Type 0) → ℕ → Type 0
OneAnswer post n = (k x y : ℕ) → k < n → post k x → post k y → x ≡ y

abbrev pub AreBytes : List ℕ → Type 0
AreBytes s = (i : ℕ) → get_or s i 0 < 256

module _ (T : _) (L : _) (F : bytes_filler.Ghosts T) (d₁ d₂ d₃ d₄ : _) where
  pub fill_bytes_unique : (κs : _) (a : _) (r₁ r₂ : _) (s₁ s₂ : _)
      → fill_bytes.Post T L F d₁ d₂ d₃ d₄ κs a r₁ s₁ → fill_bytes.Post T L F d₁ d₂ d₃ d₄ κs a r₂ s₂
      → OneAnswer ((bytes_filler.words T F).post a.1.0) (length a.0.now)
      → length s₁.0.now ≡ length a.0.now → length s₂.0.now ≡ length a.0.now → s₁.0.now ≡ s₂.0.now
  fill_bytes_unique κs a r₁ r₂ s₁ s₂ p q one l₁ l₂ =
      ext_get_or 0 s₁.0.now s₂.0.now (l₁ ∙ sym l₂)
      (λ i b. one i (get_or s₁.0.now i 0) (get_or s₂.0.now i 0) (omega arith) (p i b) (q i (omega arith)))

module _ (T : _) (L : _) (F : pairs_filler.Ghosts T) (d₁ d₂ d₃ d₄ : _) where
  pub fill_pairs_unique : (κs : _) (a : _) (r₁ r₂ : _) (s₁ s₂ : _)
      → fill_pairs.Post T L F d₁ d₂ d₃ d₄ κs a r₁ s₁ → fill_pairs.Post T L F d₁ d₂ d₃ d₄ κs a r₂ s₂
      → OneAnswer ((pairs_filler.words T F).post a.1.0) (length a.0.now / 2)
      → length s₁.0.now ≡ length a.0.now → length s₂.0.now ≡ length a.0.now → AreBytes s₁.0.now → AreBytes s₂.0.now
      → s₁.0.now ≡ s₂.0.now
  fill_pairs_unique κs a r₁ r₂ s₁ s₂ p q one l₁ l₂ b₁ b₂ =
      pairs_same s₁.0.now s₂.0.now (length a.0.now / 2) (l₁ ∙ sym l₂) b₁ b₂
      (λ k m. one k (le 2 s₁.0.now (2 * k)) (le 2 s₂.0.now (2 * k)) m (p.0 k m) (q.0 k m))
      (λ i m. p.1 i m ∙ sym (q.1 i m))
