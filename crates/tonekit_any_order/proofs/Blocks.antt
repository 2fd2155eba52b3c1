-- Accents with their rules read one after the other exactly if each reads by itself, their numbers are new and differ, and there is room for all of them
-- (`blocks_fine`, `blocks_read`). None of that turns on their order (`fine_in_order`). Assumes nothing.
use Rattle.std.proofs.Common.{ℕ, suc, ◌+◌, ◌≤◌, ◌<◌, ◌≡◌, refl, sym, ◌∙◌, ap, subst, ◌⊎◌, inl, inr, ⊎_elim, true, false, ◌||◌, List, [], ◌∷◌, ◌++◌, arith, eqb, eqb-true, length, get_or, length-append}
use Rattle.std.specs.Prelude.{Ok, All, AllPairs, IsPermutation, sum_by}
use Rattle.std.proofs.lemmas.List.Elements.{All-nil, All-cons, All-head, All-tail}
use Rattle.std.proofs.lemmas.List.Kept.{AllPairs-cons}
use Rattle.std.proofs.lemmas.List.Sums.{sum_by-cons}
use Rattle.std.proofs.lemmas.List.Sorted.{All-permutation, sum_by-IsPermutation, length_permutation}
use Rattle.spec_arithmetic.specs.Places.{number_at}
use Rattle.spec_pack.specs.Pack.{due_after, size_of, accent_fine}
use Rattle.tonekit_core.proofs.Split.{split, either, neither}
use Rattle.tonekit_pack.specs.Going.{reached}
use Rattle.tonekit_records.specs.Records.{Tally, among, kind, record_verdict_of, tallied, ReadsOn, none, more}
use Rattle.tonekit_records.proofs.Loading.{fine_due}
use Rattle.tonekit_any_order.specs.Layout.{Block, blocks_records, IsOfKind, IsBlock}
use Rattle.tonekit_any_order.proofs.Differ.{Differ, differ_in_order}
use Rattle.tonekit_any_order.proofs.Moved.{after_accent, accent_tally, AccentAsks, accent_asks, accent_gets, how_many, counted, Beside, Moved, moved}

-- ---- records that read, taken apart and put together
pub record Step (t u : Tally) (r : List ℕ) (rs : List (List ℕ)) : Type 0 where
  pub whole : length r ≡ size_of (kind r)
  pub not_end : kind r ≡ 6 → ⊥
  pub fine : record_verdict_of r t ≡ Ok tt
  pub rest : ReadsOn (tallied r t) rs u

pub step : {t u : Tally} {r : List ℕ} {rs : List (List ℕ)} → ReadsOn t (r ∷ rs) u → Step t u r rs
step (more w n fine x) = record { whole = w; not_end = n; fine = fine; rest = x }

pub record Parted (t u : Tally) (xs ys : List (List ℕ)) : Type 0 where
  pub between : Tally
  pub front : ReadsOn t xs between
  pub back : ReadsOn between ys u

pub parted : (xs ys : List (List ℕ)) → {t u : Tally} → ReadsOn t (xs ++ ys) u → Parted t u xs ys
parted [] ys {t} x = record { between = t; front = none; back = x }
parted (r ∷ xs) ys (more w n fine x) = let p = parted xs ys x in record { between = p.between; front = more w n fine p.front; back = p.back }

pub joined : {t v u : Tally} {xs ys : List (List ℕ)} → ReadsOn t xs v → ReadsOn v ys u → ReadsOn t (xs ++ ys) u
joined none y = y
joined (more w n fine x) y = more w n fine (joined x y)

-- ---- what is due behind an accent's rules
accent_due : (l : ℕ) → due_after l 6 ≡ true → due_after l 3 ≡ true
unfolding due_after
accent_due l d = split (eqb l 2) (λ t. rw t) (λ t. split (eqb l 7) (λ w. rw (t, w)) (λ w. rw (t, w) d))

end_due : (l : ℕ) → 3 ≤ reached l → due_after l 3 ≡ true → due_after l 6 ≡ true
unfolding due_after
end_due l h d =
    let early : (k : ℕ) → eqb l k ≡ true → reached l ≡ reached k = λ k t. ap reached (eqb-true l k t) in
    either (eqb l 2) (eqb l 7 || (eqb l 3 || eqb l 5)) d (λ t. absurd (omega (arith, early 2 t)))
    (λ t. either (eqb l 7) (eqb l 3 || eqb l 5) t (λ w. absurd (omega (arith, early 7 w))) (λ w. w))

module _ (bs : List Block) (w : All IsBlock bs) {t u : Tally} (x : ReadsOn t (blocks_records bs) u) (due : due_after u.last 6 ≡ true) where
  pub record FirstDue : Type 0 where
    pub accent : due_after t.last 3 ≡ true
    pub end : (due_after t.last 6 ≡ true) ⊎ (0 < length bs)

pub first_due : (bs : List Block) (w : All IsBlock bs) {t u : Tally} (x : ReadsOn t (blocks_records bs) u) (due : due_after u.last 6 ≡ true) → FirstDue bs w x due
unfolding blocks_records
first_due [] w {t} none due = record { accent = accent_due t.last due; end = inl due }
first_due (b ∷ bs) w {t} (more n m fine x) due =
    let k = (All-head IsBlock b bs w).accent.begins in record { accent = ap (due_after t.last) (sym k) ∙ fine_due b.accent t fine; end = inr (omega arith) }

then_due : (bs : List Block) (w : All IsBlock bs) {t u : Tally} (x : ReadsOn t (blocks_records bs) u) → due_after u.last 6 ≡ true → 3 ≤ reached t.last → due_after t.last 6 ≡ true
then_due bs w {t} x due late = end_due t.last late (first_due bs w x due).accent

-- ---- an accent with its rules by itself, after these tones
abbrev bare : List ℕ → Tally
bare tones = record { last = 3; tones = tones; accents = []; rules = 0; form = 0; parts = 0; total = 0 }

pub record FineBlock (tones : List ℕ) (b : Block) : Type 0 where
  pub ranges : accent_fine 3 b.accent 0 ≡ true
  pub tally : Tally
  pub reads : ReadsOn (bare tones) b.rules tally
  pub due : due_after tally.last 6 ≡ true

abbrev pub number_of : Block → ℕ
number_of b = number_at b.accent 0

abbrev rules_in : Block → ℕ
rules_in b = how_many 4 b.rules

abbrev parts_in : Block → ℕ
parts_in b = how_many 5 b.rules

-- all of them behind what the tally t counts
pub record FineBlocks (t : Tally) (bs : List Block) : Type 0 where
  pub each : All (FineBlock t.tones) bs
  pub new : All (λ b. among t.accents (number_of b) ≡ false) bs
  pub differ : AllPairs (Differ number_of) bs
  pub few : length t.accents + length bs ≤ 8
  pub rules : t.rules + sum_by rules_in bs ≤ 64
  pub parts : t.total + sum_by parts_in bs ≤ 128

-- ---- a number that is not among l and x
among_neither : (l : List ℕ) (x n : ℕ) → among (l ++ (x ∷ [])) n ≡ false → (among l n ≡ false) × (eqb x n ≡ false)
unfolding among
among_neither [] x n e = (refl, (neither (eqb x n) false e).0)
among_neither (z ∷ l) x n e =
    let b = neither (eqb z n) (among (l ++ (x ∷ [])) n) e in
    let c = among_neither l x n b.1 in
    (rw b.0 c.0, c.1)

neither_among : (l : List ℕ) (x n : ℕ) → among l n ≡ false → eqb x n ≡ false → among (l ++ (x ∷ [])) n ≡ false
unfolding among
neither_among [] x n e g = rw g
neither_among (z ∷ l) x n e g = let b = neither (eqb z n) (among l n) e in rw b.0 (neither_among l x n b.1 g)

-- ---- blocks that read are fine
module _ (r : List ℕ) (t : Tally) where
  to_bare : Beside (after_accent r t) (bare t.tones)
  to_bare = record { tones = refl; last = refl; form = λ l. absurd (omega arith); parts = λ l. absurd (omega arith) }

  from_bare : Beside (bare t.tones) (after_accent r t)
  from_bare = record { tones = refl; last = refl; form = λ l. absurd (omega arith); parts = λ l. absurd (omega arith) }

own_block : (b : Block) (t v : Tally) → AccentAsks b.accent t → Moved (bare t.tones) v b.rules → due_after v.last 6 ≡ true → FineBlock t.tones b
own_block b t v a m d = record { ranges = a.ranges; tally = m.tally; reads = m.reads; due = ap (λ z. due_after z 6) m.beside.last ∙ d }

pub blocks_fine : (bs : List Block) → All IsBlock bs → {t u : Tally} → ReadsOn t (blocks_records bs) u → t.rules ≤ 64 → t.total ≤ 128 → length t.accents ≤ 8
    → due_after u.last 6 ≡ true → FineBlocks t bs
unfolding blocks_records
blocks_fine [] w x p q l due = record {
  each = All-nil _;
  new = All-nil _;
  differ = λ i j d h k. absurd (omega arith);
  few = omega arith;
  rules = omega arith;
  parts = omega arith;
}
blocks_fine (b ∷ bs) w {t} {u} x p q l due =
    let is = All-head IsBlock b bs w in
    let others = All-tail IsBlock b bs w in
    let k = is.accent.begins in
    let s = step x in
    let qa = accent_asks b.accent t k s.fine in
    let y = parted b.rules (blocks_records bs) (subst (λ (z : Tally). ReadsOn z (b.rules ++ blocks_records bs) u) (accent_tally b.accent t k) s.rest) in
    let va = y.between in
    let c = counted b.rules is.rules y.front in
    let longer : length va.accents ≡ length t.accents + 1 = ap length c.accents ∙ length-append t.accents (number_of b ∷ []) in
    let f = blocks_fine bs others y.back (c.most_rules p) (c.most_parts q) (omega (arith, longer, qa.room)) due in
    let ru = sum_by-cons rules_in b bs in
    let pa = sum_by-cons parts_in b bs in
    let m = moved b.rules is.rules (to_bare b.accent t) y.front (omega (arith, c.rules, f.rules)) (omega (arith, c.total, f.parts)) in
    let late : 3 ≤ reached va.last = c.late (omega arith) in
    let own = own_block b t va qa m (then_due bs others y.back due late) in
    let both : (a : Block) → among va.accents (number_of a) ≡ false → (among t.accents (number_of a) ≡ false) × (eqb (number_of b) (number_of a) ≡ false) =
    λ a e. among_neither t.accents (number_of b) (number_of a) (ap (λ z. among z (number_of a)) (sym c.accents) ∙ e) in
    record {
      each = All-cons (FineBlock t.tones) b bs own (subst (λ (z : List ℕ). All (FineBlock z) bs) c.tones f.each);
      new = All-cons (λ a. among t.accents (number_of a) ≡ false) b bs qa.new (λ i d h. (both (get_or bs i d) (f.new i d h)).0);
      differ = AllPairs-cons (Differ number_of) b bs (λ i d h. (both (get_or bs i d) (f.new i d h)).1) f.differ;
      few = omega (arith, longer, f.few);
      rules = omega (arith, c.rules, f.rules, ru);
      parts = omega (arith, c.total, f.parts, pa);
    }

-- ---- and fine blocks read
pub record BlocksRead (t : Tally) (bs : List Block) : Type 0 where
  pub tally : Tally
  pub reads : ReadsOn t (blocks_records bs) tally
  pub due : due_after tally.last 6 ≡ true

-- one more in front
put_first : (b : Block) (bs : List Block) (t v : Tally) → IsOfKind 3 b.accent → record_verdict_of b.accent t ≡ Ok tt → ReadsOn (after_accent b.accent t) b.rules v
    → BlocksRead v bs → BlocksRead t (b ∷ bs)
unfolding blocks_records
put_first b bs t v is fine x y = record {
  tally = y.tally;
  reads = more (is.whole ∙ ap size_of (sym is.begins)) (λ z. omega (arith, is.begins)) fine
      (subst (λ (z : Tally). ReadsOn z (b.rules ++ blocks_records bs) y.tally) (sym (accent_tally b.accent t is.begins)) (joined x y.reads));
  due = y.due;
}

pub blocks_read : (bs : List Block) → All IsBlock bs → (t : Tally) → due_after t.last 3 ≡ true → (due_after t.last 6 ≡ true) ⊎ (0 < length bs) → FineBlocks t bs
    → BlocksRead t bs
unfolding blocks_records
blocks_read [] w t d e f = record { tally = t; reads = none; due = ⊎_elim (λ h. h) (λ h. absurd (omega arith)) e }
blocks_read (b ∷ bs) w t d e f =
    let is = All-head IsBlock b bs w in
    let k = is.accent.begins in
    let own = All-head (FineBlock t.tones) b bs f.each in
    let new = All-head (λ a. among t.accents (number_of a) ≡ false) b bs f.new in
    let fine = accent_gets b.accent t k d (record { room = omega (arith, f.few); ranges = own.ranges; new = new }) in
    let ru = sum_by-cons rules_in b bs in
    let pa = sum_by-cons parts_in b bs in
    let m = moved b.rules is.rules (from_bare b.accent t) own.reads (omega (arith, f.rules, ru)) (omega (arith, f.parts, pa)) in
    let v = m.tally in
    let c = counted b.rules is.rules m.reads in
    let longer : length v.accents ≡ length t.accents + 1 = ap length c.accents ∙ length-append t.accents (number_of b ∷ []) in
    let end : due_after v.last 6 ≡ true = ap (λ z. due_after z 6) m.beside.last ∙ own.due in
    let left : FineBlocks v bs = record {
      each = subst (λ (z : List ℕ). All (FineBlock z) bs) (sym c.tones) (All-tail (FineBlock t.tones) b bs f.each);
      new = λ i g h. ap (λ z. among z (number_of (get_or bs i g))) c.accents
          ∙ neither_among t.accents (number_of b) (number_of (get_or bs i g)) (f.new (suc i) g (omega arith)) (f.differ 0 (suc i) g (omega arith) (omega arith));
      differ = λ i j g h o. f.differ (suc i) (suc j) g (omega arith) (omega arith);
      few = omega (arith, longer, f.few);
      rules = omega (arith, c.rules, f.rules, ru);
      parts = omega (arith, c.total, f.parts, pa);
    } in
    put_first b bs t v is.accent fine m.reads (blocks_read bs (All-tail IsBlock b bs w) v (accent_due v.last end) (inl end) left)

-- ---- in any order
module _ (t : Tally) (xs ys : List Block) (p : IsPermutation xs ys) (f : FineBlocks t xs) where
  pub fine_in_order : FineBlocks t ys
  fine_in_order = record {
    each = All-permutation (FineBlock t.tones) xs ys p f.each;
    new = All-permutation (λ b. among t.accents (number_of b) ≡ false) xs ys p f.new;
    differ = differ_in_order number_of xs ys p f.differ;
    few = omega (arith, length_permutation xs ys p, f.few);
    rules = omega (arith, sum_by-IsPermutation rules_in xs ys p, f.rules);
    parts = omega (arith, sum_by-IsPermutation parts_in xs ys p, f.parts);
  }
