-- The records of a pack whose blocks stand in another order: they read if those of the one do (`reads_alike`), no two accents have one number
-- (`blocks_differ`), and End stands at the same offset (`end_alike`). Assumes nothing.
use Rattle.std.proofs.Common.{ℕ, ◌+◌, ◌≡◌, refl, ◌∙◌, ap, inl, inr, ⊎_elim, true, false, List, [], ◌∷◌, ◌++◌, arith, eqb, length, length-append}
use Rattle.std.specs.Prelude.{All, AllPairs, IsPermutation, sum_by}
use Rattle.std.proofs.lemmas.List.Elements.{All-head, All-tail}
use Rattle.std.proofs.lemmas.List.Sums.{sum_by-cons}
use Rattle.std.proofs.lemmas.List.Sorted.{All-permutation, sum_by-IsPermutation, length_permutation}
use Rattle.spec_pack.specs.Pack.{due_after}
use Rattle.tonekit_core.proofs.Split.{split}
use Rattle.tonekit_records.specs.Records.{Tally, no_tally, kind, tallied, ReadsOn, none, more, records_bytes}
use Rattle.tonekit_any_order.specs.Layout.{Block, Layout, blocks_records, layout_records, end_offset, IsToneOrTail, IsBlock, IsLayout}
use Rattle.tonekit_any_order.proofs.Differ.{Differ}
use Rattle.tonekit_any_order.proofs.Blocks.{number_of, step, parted, joined, first_due, FineBlocks, blocks_fine, blocks_read, fine_in_order}

-- ---- settings, tones and tails count no accent, rule or part
record CountsAs (t v : Tally) : Type 0 where
  accents : v.accents ≡ t.accents
  rules : v.rules ≡ t.rules
  total : v.total ≡ t.total

-- a record that is no accent, rule or part
counts_none : (r : List ℕ) (t : Tally) {k : ℕ} → kind r ≡ k → eqb k 3 ≡ false → eqb k 4 ≡ false → eqb k 5 ≡ false → CountsAs t (tallied r t)
unfolding tallied
counts_none r t {k} e a b c =
    rw e
    (split (eqb k 2)
    (λ x. rw x (record { accents = refl; rules = refl; total = refl }))
    (λ x. rw (x, a, b, c) (record { accents = refl; rules = refl; total = refl })))

counts_then : {t u v : Tally} → CountsAs t u → CountsAs u v → CountsAs t v
counts_then a b = record { accents = b.accents ∙ a.accents; rules = b.rules ∙ a.rules; total = b.total ∙ a.total }

tones_count : (rs : List (List ℕ)) → All IsToneOrTail rs → {t v : Tally} → ReadsOn t rs v → CountsAs t v
tones_count [] w none = record { accents = refl; rules = refl; total = refl }
tones_count (r ∷ rs) w {t} (more n m fine x) =
    let one : CountsAs t (tallied r t) =
    ⊎_elim (λ z. counts_none r t z.begins refl refl refl) (λ z. counts_none r t z.begins refl refl refl) (All-head IsToneOrTail r rs w) in
    counts_then one (tones_count rs (All-tail IsToneOrTail r rs w) x)

-- ---- records that read, with End due behind them
pub record Reads (rs : List (List ℕ)) : Type 0 where
  pub tally : Tally
  pub reads : ReadsOn no_tally rs tally
  pub due : due_after tally.last 6 ≡ true

-- ---- bytes
append_size : (xs ys : List (List ℕ)) → length (records_bytes (xs ++ ys)) ≡ length (records_bytes xs) + length (records_bytes ys)
unfolding records_bytes
append_size [] ys = omega arith
append_size (x ∷ xs) ys = omega (arith, length-append x (records_bytes (xs ++ ys)), length-append x (records_bytes xs), append_size xs ys)

abbrev block_size : Block → ℕ
block_size b = length b.accent + length (records_bytes b.rules)

blocks_size : (bs : List Block) → length (records_bytes (blocks_records bs)) ≡ sum_by block_size bs
unfolding records_bytes blocks_records
blocks_size [] = refl
blocks_size (b ∷ bs) =
    let front = length-append b.accent (records_bytes (b.rules ++ blocks_records bs)) in
    omega (arith, front, append_size b.rules (blocks_records bs), blocks_size bs, sum_by-cons block_size b bs)

-- ---- the blocks behind settings and tones
module _ (p : Layout) (is : IsLayout p) (x : Reads (layout_records p)) where
  abbrev tally_before : Tally
  tally_before = (parted p.tones (blocks_records p.blocks) (step x.reads).rest).between

  fine_here : FineBlocks tally_before p.blocks
  fine_here =
      let y = parted p.tones (blocks_records p.blocks) (step x.reads).rest in
      let c = counts_then (counts_none p.settings no_tally is.settings.begins refl refl refl) (tones_count p.tones is.tones y.front) in
      blocks_fine p.blocks is.blocks y.back (omega (arith, c.rules)) (omega (arith, c.total)) (omega (arith, ap length c.accents)) x.due

  pub blocks_differ : AllPairs (Differ number_of) p.blocks
  blocks_differ = fine_here.differ

module _ (p : Layout) (other : List Block) (is : IsLayout p) (order : IsPermutation p.blocks other) where
  abbrev pub turned : Layout
  turned = record p { blocks = other }

  pub turned_is : IsLayout turned
  turned_is = record { settings = is.settings; tones = is.tones; blocks = All-permutation IsBlock p.blocks other order is.blocks }

  pub reads_alike : Reads (layout_records p) → Reads (layout_records turned)
  reads_alike x =
      let s = step x.reads in
      let y = parted p.tones (blocks_records p.blocks) s.rest in
      let t = y.between in
      let d = first_due p.blocks is.blocks y.back x.due in
      let f = fine_in_order t p.blocks other order (fine_here p is x) in
      let z = blocks_read other turned_is.blocks t d.accent (⊎_elim inl (λ l. inr (omega (arith, length_permutation p.blocks other order))) d.end) f in
      record { tally = z.tally; reads = more s.whole s.not_end s.fine (joined y.front z.reads); due = z.due }

  pub end_alike : end_offset p ≡ end_offset turned
  unfolding records_bytes
  end_alike =
      let same = sum_by-IsPermutation block_size p.blocks other order in
      let one = length-append p.settings (records_bytes (p.tones ++ blocks_records p.blocks)) in
      let two = length-append p.settings (records_bytes (p.tones ++ blocks_records other)) in
      omega (arith, one, two, append_size p.tones (blocks_records p.blocks), append_size p.tones (blocks_records other), blocks_size p.blocks, blocks_size other, same)
