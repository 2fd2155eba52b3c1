-- What the reader keeps of one record, and that it keeps it: later records only add to its lists. Assumes nothing.
use Rattle.std.proofs.Common.{ℕ, ◌+◌, ◌≤◌, ◌<◌, ◌≡◌, refl, ◌∙◌, ap, false, List, [], ◌∷◌, ◌++◌, arith, eqb, length, get_or, length-append}
use lib.ListN.{get_or-append}
use lib.Seq.{get_or-append_seam}
use Rattle.spec_pack.specs.Pack.{PackRead, added}
use Rattle.tonekit_core.proofs.Split.{split}
use Rattle.tonekit_records.specs.Records.{kind, added_all}

-- ---- one record
-- accents, where their rules begin, and rules, once it is added
pub record Grew (next : PackRead) (accents firsts rules : List ℕ) : Type 0 where
  pub accents_are : next.accents ≡ accents
  pub firsts_are : next.firsts ≡ firsts
  pub rules_are : next.rules ≡ rules

module _ (k at : ℕ) (st : PackRead) where
  pub accent_grew : k ≡ 3 → Grew (added k at st) (st.accents ++ (at ∷ [])) (st.firsts ++ (length st.rules ∷ [])) st.rules
  unfolding added
  accent_grew e = record { accents_are = rw e; firsts_are = rw e; rules_are = rw e }

  pub rule_grew : k ≡ 4 → Grew (added k at st) st.accents st.firsts (st.rules ++ (at ∷ []))
  unfolding added
  rule_grew e = record { accents_are = rw e; firsts_are = rw e; rules_are = rw e }

  pub other_grew : eqb k 3 ≡ false → eqb k 4 ≡ false → Grew (added k at st) st.accents st.firsts st.rules
  unfolding added
  other_grew a b =
      split (eqb k 2) (λ t. record { accents_are = rw t; firsts_are = rw t; rules_are = rw t })
      (λ t. split (eqb k 5)
      (λ u. record { accents_are = rw (t, a, b, u); firsts_are = rw (t, a, b, u); rules_are = rw (t, a, b, u) })
      (λ u. record { accents_are = rw (t, a, b, u); firsts_are = rw (t, a, b, u); rules_are = rw (t, a, b, u) }))

  pub tone_grew : k ≡ 2 → (added k at st).tones ≡ st.tones ++ (at ∷ [])
  unfolding added
  tone_grew e = rw e

  pub tone_kept : eqb k 2 ≡ false → (added k at st).tones ≡ st.tones
  unfolding added
  tone_kept a =
      split (eqb k 3) (λ t. rw (a, t)) (λ t. split (eqb k 4) (λ u. rw (a, t, u)) (λ u. split (eqb k 5) (λ v. rw (a, t, u, v)) (λ v. rw (a, t, u, v))))

-- ---- all records
-- m begins with l
pub record Begins (l m : List ℕ) : Type 0 where
  pub same : (i : ℕ) → i < length l → get_or m i 0 ≡ get_or l i 0
  pub long : length l ≤ length m

begins_itself : (l : List ℕ) → Begins l l
begins_itself l = record { same = λ i h. refl; long = omega arith }

begins_more : (l : List ℕ) (x : ℕ) → Begins l (l ++ (x ∷ []))
begins_more l x = record { same = λ i h. get_or-append l (x ∷ []) 0 i h; long = omega (arith, length-append l (x ∷ [])) }

begins_then : (l m n : List ℕ) → Begins l m → Begins m n → Begins l n
begins_then l m n a b = record { same = λ i h. b.same i (omega (arith, a.long)) ∙ a.same i h; long = omega (arith, a.long, b.long) }

-- the lists of one state, and those of a later one
pub record Lasts (st fin : PackRead) : Type 0 where
  pub tones : Begins st.tones fin.tones
  pub accents : Begins st.accents fin.accents
  pub firsts : Begins st.firsts fin.firsts
  pub rules : Begins st.rules fin.rules

one_lasts : (k at : ℕ) (st : PackRead) → Lasts st (added k at st)
unfolding added
one_lasts k at st =
    let t = begins_itself st.tones in
    let a = begins_itself st.accents in
    let f = begins_itself st.firsts in
    let r = begins_itself st.rules in
    split (eqb k 2) (λ x. rw x (record { tones = begins_more st.tones at; accents = a; firsts = f; rules = r }))
    (λ x. split (eqb k 3) (λ y. rw (x, y) (record { tones = t; accents = begins_more st.accents at; firsts = begins_more st.firsts (length st.rules); rules = r }))
    (λ y. split (eqb k 4) (λ z. rw (x, y, z) (record { tones = t; accents = a; firsts = f; rules = begins_more st.rules at }))
    (λ z. split (eqb k 5) (λ w. rw (x, y, z, w) (record { tones = t; accents = a; firsts = f; rules = r })) (λ w. rw (x, y, z, w) (record { tones = t; accents = a; firsts = f; rules = r })))))

pub lasts : (rs : List (List ℕ)) (at : ℕ) (st : PackRead) → Lasts st (added_all st at rs)
unfolding added_all
lasts [] at st = record { tones = begins_itself st.tones; accents = begins_itself st.accents; firsts = begins_itself st.firsts; rules = begins_itself st.rules }
lasts (r ∷ rs) at st =
    let x = one_lasts (kind r) at st in
    let y = lasts rs (at + length r) (added (kind r) at st) in
    record {
      tones = begins_then st.tones _ _ x.tones y.tones;
      accents = begins_then st.accents _ _ x.accents y.accents;
      firsts = begins_then st.firsts _ _ x.firsts y.firsts;
      rules = begins_then st.rules _ _ x.rules y.rules;
    }

-- ---- an entry that was added
pub one_longer : (l : List ℕ) (x : ℕ) → length (l ++ (x ∷ [])) ≡ length l + 1
one_longer l x = length-append l (x ∷ [])

-- stays where it is
pub stays : (l m n : List ℕ) (x : ℕ) → m ≡ l ++ (x ∷ []) → Begins m n → get_or n (length l) 0 ≡ x
stays l m n x e b =
    let low : length l < length m = omega (arith, ap length e, one_longer l x) in
    b.same (length l) low ∙ ap (λ y. get_or y (length l) 0) e ∙ get_or-append_seam l x [] 0
