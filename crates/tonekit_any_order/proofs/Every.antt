-- Every pack that loads is settings, tones and tails, blocks, each an accent and the rules and parts behind it, and End (`every_pack`). Assumes nothing.
use Rattle.std.proofs.Common.{ℕ, ◌≤◌, ◌≡◌, refl, sym, ◌∙◌, ap, subst, ◌⊎◌, inl, inr, ⊎_elim, true, false, cond, List, [], ◌∷◌, ◌++◌, arith, eqb, eqb-true, length, drop}
use Rattle.std.specs.Prelude.{All}
use Rattle.std.proofs.lemmas.List.Elements.{All-nil, All-cons}
use Rattle.spec_pack.specs.Pack.{due_after, size_of}
use Rattle.tonekit_core.proofs.Split.{split, absurd_bool}
use Rattle.tonekit_pack.specs.Going.{reached}
use Rattle.tonekit_pack.proofs.Records.{Due, due_is, settings, tone, tail, accent, rule, part, finish}
use Rattle.tonekit_records.specs.Records.{Tally, no_tally, kind, tallied, ReadsOn, none, more, records_bytes}
use Rattle.tonekit_records.proofs.Loading.{fine_due, load_reads}
use Rattle.tonekit_any_order.specs.Layout.{Block, Layout, blocks_records, layout_records, IsOfKind, IsToneOrTail, IsRuleOrPart, IsBlock, IsLayout}
use Rattle.tonekit_any_order.specs.AnyOrder.{EveryPack}

-- ---- records taken apart, from their end: what stands before the first accent, and the blocks
record Pieces : Type 0 where
  front : List (List ℕ)
  blocks : List Block

abbrev one_more : List ℕ → Pieces → Pieces
one_more r g = cond (eqb (kind r) 3) (record { front = []; blocks = record { accent = r; rules = g.front } ∷ g.blocks }) (record { front = r ∷ g.front; blocks = g.blocks })

pieces : List (List ℕ) → Pieces
pieces [] = record { front = []; blocks = [] }
pieces (r ∷ rs) = one_more r (pieces rs)

together : (rs : List (List ℕ)) → (pieces rs).front ++ blocks_records (pieces rs).blocks ≡ rs
unfolding pieces blocks_records
together [] = refl
together (r ∷ rs) = split (eqb (kind r) 3) (λ t. rw t (ap (λ l. r ∷ l) (together rs))) (λ t. rw t (ap (λ l. r ∷ l) (together rs)))

-- ---- what they are
record Shaped (P : List ℕ → Type 0) (g : Pieces) : Type 0 where
  front : All P g.front
  blocks : All IsBlock g.blocks

nothing : (P : List ℕ → Type 0) → Shaped P (pieces [])
unfolding pieces
nothing P = record { front = All-nil P; blocks = All-nil IsBlock }

of_kind : (k : ℕ) (r : List ℕ) → kind r ≡ k → length r ≡ size_of (kind r) → IsOfKind k r
of_kind k r e w = record { begins = e; whole = w ∙ ap size_of e }

module _ (r : List ℕ) (rs : List (List ℕ)) (w : length r ≡ size_of (kind r)) where
  accent_more : (P : List ℕ → Type 0) → kind r ≡ 3 → Shaped IsRuleOrPart (pieces rs) → Shaped P (pieces (r ∷ rs))
  unfolding pieces
  accent_more P k s =
      rw k (record {
        front = All-nil P;
        blocks = All-cons IsBlock (record { accent = r; rules = (pieces rs).front }) (pieces rs).blocks (record { accent = of_kind 3 r k w; rules = s.front }) s.blocks;
      })

  other_more : (P : List ℕ → Type 0) → eqb (kind r) 3 ≡ false → P r → Shaped P (pieces rs) → Shaped P (pieces (r ∷ rs))
  unfolding pieces
  other_more P n y s = rw n (record { front = All-cons P r (pieces rs).front y s.front; blocks = s.blocks })

tallied_last : (r : List ℕ) (t : Tally) → (tallied r t).last ≡ kind r
unfolding tallied
tallied_last r t =
    split (eqb (kind r) 2) (λ a. rw a)
    (λ a. split (eqb (kind r) 3) (λ b. rw (a, b)) (λ b. split (eqb (kind r) 4) (λ c. rw (a, b, c)) (λ c. split (eqb (kind r) 5) (λ d. rw (a, b, c, d)) (λ d. rw (a, b, c, d)))))

-- ---- behind an accent
late_kind : {l k : ℕ} → Due l k → 3 ≤ reached l → 3 ≤ reached k
late_kind (settings e) h = absurd (omega (arith, ap reached e))
late_kind (tone a b) h = absurd (omega arith)
late_kind (tail a b) h = absurd (omega arith)
late_kind (accent a b) h = omega arith
late_kind (rule a b) h = omega arith
late_kind (part a b) h = omega arith
late_kind (finish a b) h = omega arith

late_more : (l : ℕ) (r : List ℕ) (rs : List (List ℕ)) → length r ≡ size_of (kind r) → (kind r ≡ 6 → ⊥) → 3 ≤ reached l → {k : ℕ} → Due l k → kind r ≡ k
    → Shaped IsRuleOrPart (pieces rs) → Shaped IsRuleOrPart (pieces (r ∷ rs))
late_more l r rs w n h (settings e) q s = absurd (omega (arith, ap reached e))
late_more l r rs w n h (tone a b) q s = absurd (omega arith)
late_more l r rs w n h (tail a b) q s = absurd (omega arith)
late_more l r rs w n h (accent a b) q s = accent_more r rs w IsRuleOrPart q s
late_more l r rs w n h (rule a b) q s = other_more r rs w IsRuleOrPart (ap (λ k. eqb k 3) q) (inl (of_kind 4 r q w)) s
late_more l r rs w n h (part a b) q s = other_more r rs w IsRuleOrPart (ap (λ k. eqb k 3) q) (inr (of_kind 5 r q w)) s
late_more l r rs w n h (finish a b) q s = absurd (n q)

late : {t u : Tally} {rs : List (List ℕ)} → ReadsOn t rs u → 3 ≤ reached t.last → Shaped IsRuleOrPart (pieces rs)
late none h = nothing IsRuleOrPart
late {t} (more {r = r} {rs = rs} w n fine x) h =
    let d = due_is t.last (kind r) (fine_due r t fine) in
    late_more t.last r rs w n h d refl (late x (subst (λ k. 3 ≤ reached k) (sym (tallied_last r t)) (late_kind d h)))

-- ---- behind the settings
early_kind : {l k : ℕ} → Due l k → 1 ≤ reached l → reached l ≤ 2 → eqb k 3 ≡ false → (k ≡ 2) ⊎ (k ≡ 7)
early_kind (settings e) g h n = absurd (omega (arith, ap reached e))
early_kind (tone a b) g h n = inl refl
early_kind (tail a b) g h n = inr refl
early_kind (accent a b) g h n = absurd_bool (sym n)
early_kind (rule a b) g h n = absurd (omega arith)
early_kind (part a b) g h n = absurd (omega arith)
early_kind (finish a b) g h n = absurd (omega arith)

early : {t u : Tally} {rs : List (List ℕ)} → ReadsOn t rs u → 1 ≤ reached t.last → reached t.last ≤ 2 → Shaped IsToneOrTail (pieces rs)
early none g h = nothing IsToneOrTail
early {t} (more {r = r} {rs = rs} w n fine x) g h =
    let d = due_is t.last (kind r) (fine_due r t fine) in
    let last = ap reached (tallied_last r t) in
    split (eqb (kind r) 3)
    (λ a. let k = eqb-true (kind r) 3 a in accent_more r rs w IsToneOrTail k (late x (omega (arith, last, ap reached k))))
    (λ a. let kinds = early_kind d g h a in
    let two : reached (kind r) ≡ 2 = ⊎_elim (ap reached) (ap reached) kinds in
    let is : IsToneOrTail r = ⊎_elim (λ k. inl (of_kind 2 r k w)) (λ k. inr (of_kind 7 r k w)) kinds in
    other_more r rs w IsToneOrTail a is (early x (omega (arith, last, two)) (omega (arith, last, two))))

-- ---- the whole
first_kind : {k : ℕ} → Due 0 k → k ≡ 1
first_kind (settings e) = refl
first_kind (tone a b) = absurd (omega arith)
first_kind (tail a b) = absurd (omega arith)
first_kind (accent a b) = absurd (omega arith)
first_kind (rule a b) = absurd (omega arith)
first_kind (part a b) = absurd (omega arith)
first_kind (finish a b) = absurd (omega arith)

of_records : {u : Tally} {rs : List (List ℕ)} (behind : List ℕ) → ReadsOn no_tally rs u → due_after u.last 6 ≡ true
    → (p : Layout) × IsLayout p × (records_bytes rs ++ (6 ∷ behind) ≡ records_bytes (layout_records p) ++ (6 ∷ p.behind))
unfolding due_after
of_records behind none due = absurd_bool due
of_records behind (more {r = r} {rs = rs} w n fine x) due =
    let k = first_kind (due_is 0 (kind r) (fine_due r no_tally fine)) in
    let last = ap reached (tallied_last r no_tally ∙ k) in
    let s = early x (omega (arith, last)) (omega (arith, last)) in (
      record { settings = r; tones = (pieces rs).front; blocks = (pieces rs).blocks; behind = behind },
      record { settings = of_kind 1 r k w; tones = s.front; blocks = s.blocks },
      ap (λ (l : List (List ℕ)). records_bytes (r ∷ l) ++ (6 ∷ behind)) (sym (together rs)),
    )

pub every_pack : EveryPack
every_pack s st e h =
    let x = load_reads s st e h in
    let p = of_records (drop e s) x.reads x.due in
    (p.0, p.1, x.bytes ∙ p.2)
