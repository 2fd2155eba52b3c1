-- Vectors in a list of bytes, and what replaying them counts.
use Rattle.std.specs.Prelude.{ℕ, ◌+◌, ◌*◌, ◌/◌, not, cond, List, eqb, get_or, length}
use Rattle.std.specs.Float.{binary32, binary64}
use Rattle.std.specs.Float.Ieee.{of_bits, to_bits}
use Rattle.std.specs.Simd.{first_chunks}
use Rattle.tonekit_core.specs.Loop.{fold}
use Rattle.spec_arithmetic.specs.Fields.{u32_at}
use Rattle.spec_arithmetic.specs.Narrow.{narrowed}
use Rattle.spec_arithmetic.specs.Root.{root_of}
use Rattle.spec_arithmetic.specs.Log.{ln_of, log2_of}
use Rattle.spec_arithmetic.specs.Exp.{exp_of}
use Rattle.arithmetic_vectors.specs.declared.Operation.{Operation}
use Rattle.arithmetic_vectors.specs.declared.Operation.TheVariants.{Narrow, Root, Ln, Log2, Exp}
use Rattle.arithmetic_vectors.specs.declared.Count.{Count}

-- the number of eight bytes from index i, the least significant first
abbrev pub u64_at : List ℕ → ℕ → ℕ
u64_at s i = u32_at s i + 4294967296 * u32_at s (i + 4)

-- an operation's number in a vector
abbrev pub operation_number : Operation → ℕ
operation_number Narrow = 0
operation_number Root = 1
operation_number Ln = 2
operation_number Log2 = 3
operation_number Exp = 4

-- what an operation gives for the f64 with the bits b
unfoldable pub answer : Operation → ℕ → ℕ
answer Narrow b = to_bits binary32 (narrowed (of_bits binary64 b))
answer Root b = to_bits binary64 (root_of (of_bits binary64 b))
answer Ln b = to_bits binary64 (ln_of (of_bits binary64 b))
answer Log2 b = to_bits binary64 (log2_of (of_bits binary64 b))
answer Exp b = to_bits binary64 (exp_of (of_bits binary64 b))

-- a vector has 17 bytes: the operation, the input's bits, the answer's bits
unfoldable pub tally : Operation → Count → List ℕ → Count
unfolding answer
tally op c r =
    cond (not (eqb (get_or r 0 0) (operation_number op))) c
    (cond (eqb (answer op (u64_at r 1)) (u64_at r 9))
    (record { run = c.run + 1; differ = c.differ })
    (record { run = c.run + 1; differ = c.differ + 1 }))

-- the count over all whole vectors of s
unfoldable pub replayed : List ℕ → Operation → Count
unfolding tally fold
replayed s op = fold (tally op) (record { run = 0; differ = 0 }) (first_chunks 17 (length s / 17) s)
