-- The planner's lists and memo: what one more of each keeps. Assumes nothing.
use Rattle.std.proofs.Common.{ℕ, suc, ◌+◌, ◌≤◌, ◌<◌, ◌≡◌, refl, sym, ◌∙◌, ap, subst, Bool, true, false, List, [], ◌∷◌, ◌++◌, map, length, get_or, length-append, arith, add-one, ltb-true, ltb-false, lt-ltb, le-ltb, ltb}
use Rattle.std.proofs.lemmas.List.{get_or-map}
use Rattle.std.proofs.Math.ListN.{get_or-append, length-map}
use Rattle.std.proofs.Math.Seq.{get_or_at}
use Rattle.std.proofs.Math.Option.{none, some}
use Rattle.tonekit_core.proofs.Split.{split}
use Rattle.spec_lookup.specs.Source.{Carried}
use Rattle.spec_lookup.specs.declared.Listing.{Listing}
use Rattle.spec_sheet.specs.Number.{same, seen_in, place_in, noted, number_in}
use Rattle.tonekit_sheet.proofs.Same.{place_more, seen_more, seen_last, place_last}
use Rattle.tonekit_sheet_plan.specs.declared.Entry.{Entry}
use Rattle.tonekit_sheet_plan.specs.declared.Known.{Known}
use Rattle.tonekit_sheet_plan.specs.Listings.{carried_by, record_of, Kept}
use Rattle.tonekit_sheet_plan.specs.Marks.{mark_of}
use Rattle.tonekit_sheet_plan.specs.Entries.{entry_listing, known_listing, no_entry, no_known, list_at, planned, Marked, Right, Consistent, FirstPlace, Noted}

-- the list of a listing, under a mark, and what the memo says of a listing whose list has this number
abbrev pub entry_of : Listing → ℕ → Entry
entry_of l mark = record { at = record_of l; owner = l.name.owner; mark = mark }

abbrev pub known_of : Listing → ℕ → Known
known_of l number = record { at = record_of l; owner = l.name.owner; number = number }

-- one more entry: what holds of the entries before it, and of it, holds of all
entries_more : {A : Type 0} (d : A) (P : A → Type 0) (xs : List A) (x : A) → ((i : ℕ) → i < length xs → P (get_or xs i d)) → P x
    → (i : ℕ) → i < length (xs ++ (x ∷ [])) → P (get_or (xs ++ (x ∷ [])) i d)
entries_more d P xs x before here i h =
    split (ltb i (length xs))
    (λ l. subst P (sym (get_or-append xs (x ∷ []) d i (ltb-true i (length xs) l))) (before i (ltb-true i (length xs) l)))
    (λ l. let e : i ≡ length xs = omega (arith, ltb-false i (length xs) l, length-append xs (x ∷ [])) in subst P (sym (get_or_at xs x [] d i (sym e))) here)

-- ---- the lists of entries
map_more : {A B : Type 0} (f : A → B) (xs : List A) (x : A) → map f (xs ++ (x ∷ [])) ≡ map f xs ++ (f x ∷ [])
map_more f [] x = refl
map_more {B = B} f (y ∷ xs) x = ap (λ (r : List B). f y ∷ r) (map_more f xs x)

module _ (s : List ℕ) (lists : List Entry) where
  pub planned_length : length (planned s lists) ≡ length lists
  planned_length = length-map lists (λ e. carried_by s (entry_listing s e))

  pub planned_get : (i : ℕ) → i < length lists → get_or (planned s lists) i [] ≡ carried_by s (list_at s lists i)
  planned_get i h = get_or-map (λ e. carried_by s (entry_listing s e)) lists i no_entry [] h

  planned_more : (e : Entry) → planned s (lists ++ (e ∷ [])) ≡ planned s lists ++ (carried_by s (entry_listing s e) ∷ [])
  planned_more e = map_more (λ x. carried_by s (entry_listing s x)) lists e

-- ---- what noting gives
module _ (lists : List (List Carried)) (v : List Carried) where
  noted_old : seen_in v lists ≡ true → noted lists (some v) ≡ lists
  unfolding noted
  noted_old e = rw e

  noted_new : seen_in v lists ≡ false → noted lists (some v) ≡ lists ++ (v ∷ [])
  unfolding noted
  noted_new e = rw e

pub noted_none : (lists : List (List Carried)) → noted lists none ≡ lists
unfolding noted
noted_none lists = refl

pub number_none : (lists : List (List Carried)) → 0 ≡ number_in lists none
unfolding number_in
number_none lists = refl

number_some : (lists : List (List Carried)) (v : List Carried) → suc (place_in v lists) ≡ number_in lists (some v)
unfolding number_in
number_some lists v = refl

-- ---- one more entry of the memo, and one more list
module _ (s : List ℕ) (l : Listing) (k : Kept s l) where
  right : (its : List (List Carried)) (x : ℕ) → seen_in (carried_by s l) its ≡ true → x ≡ suc (place_in (carried_by s l) its) → Right s its (known_of l x)
  right its x seen place = record {
    seen = ap (λ (m : Listing). seen_in (carried_by s m) its) k.same ∙ seen;
    number = place ∙ ap (λ (m : Listing). suc (place_in (carried_by s m) its)) (sym k.same);
  }

  pub marked : {mark : ℕ} → mark ≡ mark_of (carried_by s l) → Marked s (entry_listing s (entry_of l mark)) mark
  marked e = record { kept = rw k.same k; mark = e ∙ ap (λ (m : Listing). mark_of (carried_by s m)) (sym k.same) }

-- a memo is right of more lists too
right_more : (s : List ℕ) (its more : List (List Carried)) (e : Known) → Right s its e → Right s (its ++ more) e
right_more s its more e r = record {
  seen = seen_more (carried_by s (known_listing s e)) its more r.seen;
  number = r.number ∙ ap suc (sym (place_more (carried_by s (known_listing s e)) its more r.seen));
}

module _ (s : List ℕ) (lists : List Entry) (memo : List Known) (g : Consistent s lists memo) where
  pub sane_list : (e : Entry) → Marked s (entry_listing s e) e.mark → Consistent s (lists ++ (e ∷ [])) memo
  sane_list e m = record {
    marked = entries_more no_entry (λ x. Marked s (entry_listing s x) x.mark) lists e g.marked m;
    right = λ i b. subst (λ (v : List (List Carried)). Right s v (get_or memo i no_known)) (sym (planned_more s lists e))
        (right_more s (planned s lists) (carried_by s (entry_listing s e) ∷ []) (get_or memo i no_known) (g.right i b));
  }

  pub sane_known : (e : Known) → Right s (planned s lists) e → Consistent s lists (memo ++ (e ∷ []))
  sane_known e r = record { marked = g.marked; right = entries_more no_known (Right s (planned s lists)) memo e g.right r }

-- ---- a listing that is noted or numbered
module _ (s : List ℕ) (lists : List Entry) (memo : List Known) (l : Listing) (g : Consistent s lists memo) (k : Kept s l) where
  abbrev its : List Carried
  its = carried_by s l

  abbrev before : List (List Carried)
  before = planned s lists

  -- the memo has it
  module _ {n : ℕ} (e : Noted memo (record_of l) l.name.owner n) where
    known : Right s before (known_of l n)
    known = subst (Right s before) e.entry (g.right e.place e.inside)

    pub way_known : before ≡ noted before (some its)
    way_known = sym (noted_old before its (ap (λ (m : Listing). seen_in (carried_by s m) before) (sym k.same) ∙ known.seen))

    pub number_known : n ≡ number_in before (some its)
    number_known = known.number ∙ ap (λ (m : Listing). suc (place_in (carried_by s m) before)) k.same ∙ number_some before its

  module _ {j : ℕ} (place : FirstPlace its before j) where
    pub number_place : j + 1 ≡ number_in before (some its)
    number_place = add-one j ∙ ap suc place.first ∙ number_some before its

    -- it is one of the lists
    module _ (h : j < length lists) where
      seen : seen_in its before ≡ true
      seen = place.seen ∙ lt-ltb j (length before) (omega (arith, h, planned_length s lists))

      pub way_found : before ≡ noted before (some its)
      way_found = sym (noted_old before its seen)

      pub right_found : Right s before (known_of l (j + 1))
      right_found = right s l k before (j + 1) seen (add-one j ∙ ap suc place.first)

    -- it is new
    module _ (h : length lists ≤ j) where
      fresh : seen_in its before ≡ false
      fresh = place.seen ∙ le-ltb j (length before) (omega (arith, h, planned_length s lists))

      pub way_room : length (noted before (some its)) ≤ 128 → length lists < 128
      way_room room =
          let m : length (before ++ (its ∷ [])) ≤ 128 = rw (noted_new before its fresh) at room in
          omega (arith, length-append before (its ∷ []), planned_length s lists)

      module _ (mark : ℕ) where
        is : planned s (lists ++ (entry_of l mark ∷ [])) ≡ before ++ (its ∷ [])
        is = planned_more s lists (entry_of l mark) ∙ ap (λ (m : Listing). before ++ (carried_by s m ∷ [])) k.same

        pub way_new : planned s (lists ++ (entry_of l mark ∷ [])) ≡ noted before (some its)
        way_new = is ∙ sym (noted_new before its fresh)

        pub right_new : Right s (planned s (lists ++ (entry_of l mark ∷ []))) (known_of l (j + 1))
        right_new =
            let last : j + 1 ≡ suc (place_in its (before ++ (its ∷ []))) = add-one j ∙ ap suc (omega (arith, h, place.few, planned_length s lists, place_last its before fresh)) in
            subst (λ (v : List (List Carried)). Right s v (known_of l (j + 1))) (sym is) (right s l k (before ++ (its ∷ [])) (j + 1) (seen_last its before) last)

-- ---- a turn of the search for a place
module _ (s : List ℕ) (lists : List Entry) (v : List Carried) where
  pub compared : {i : ℕ} {b : Bool} → i < length lists → b ≡ same v (carried_by s (list_at s lists i)) → same v (get_or (planned s lists) i []) ≡ b
  compared {i} h q = ap (same v) (planned_get s lists i h) ∙ sym q

  pub below : {i : ℕ} → i < length lists → i < length (planned s lists)
  below h = omega (arith, h, planned_length s lists)
