-- What a lookup in a pack that loads lists: one to four components that can be read. Assumes nothing.
use Rattle.std.proofs.Common.{ℕ, ◌+◌, ◌≤◌, ◌<◌, ◌≡◌, refl, sym, ap, ◌∙◌, subst, List, arith, eqb, length, get_or}
use Rattle.spec_arithmetic.specs.Fields.{byte_at}
use Rattle.spec_arithmetic.specs.Files.{Out, loaded, refused}
use Rattle.spec_pack.specs.Pack.{PackRead, read_pack, parts_from}
use Rattle.spec_arithmetic.specs.Places.{number_at, index_of}
use Rattle.tonekit_pack.specs.declared.Pack.{Pack}
use Rattle.tonekit_pack.specs.Held.{records_of}
use Rattle.tonekit_core.proofs.Split.{split}
use Rattle.tonekit_pack.proofs.Loads.{Loads, loads, parts_few}
use Rattle.std.specs.Prelude.{Option, Some, None}
use Rattle.spec_lookup.specs.declared.Winner.{Winner}
use Rattle.spec_lookup.specs.declared.Context.{Context}
use Rattle.spec_lookup.specs.declared.Listing.{Listing}
use Rattle.spec_lookup.specs.Lookup.{to_rule, find_rule, rule_listing, citation, listed, look_at, look_up}
use Rattle.tonekit_bytes.proofs.Searched.{index_found}
use Rattle.tonekit_expect.proofs.Walk.{winner_is}
use Rattle.tonekit_expect.proofs.Curves.{listed_fine, rule_fine}
use Rattle.tonekit_inventory.specs.OfPack.{pack_in, Short}

pub record Few (l : Listing) : Type 0 where
  pub some : 1 ≤ l.count
  pub few : l.count ≤ 4

module _ (s : List ℕ) (st : PackRead) (e : ℕ) (l : Loads s st e) (c : Context) where
  -- a rule with a part
  abbrev Parted : ℕ → Type 0
  Parted r = 1 ≤ parts_from 4 s (r + 7)

  parted : (i k : ℕ) → k < to_rule st i → Parted (get_or st.rules k 0)
  parted i k h = (rule_fine s st e l i k h).some_parts

  of_winner : (m : Listing) (i o : ℕ) → i < length st.accents → (w : Option Winner) → find_rule s st c i ≡ w → listed s st c o w ≡ Some m → Few m
  of_winner m i o h (Some w) q g =
      let a = w.accent in
      let r = w.rule in
      let is : rule_listing s (number_at s (get_or st.accents a 0)) r ≡ m = cc in
      subst Few is (record { some = (winner_is s st c Parted parted i a r h q).1; few = parts_few 4 s (r + 7) })
  of_winner m i o h None q g =
      split (eqb (byte_at s (o + 6)) 0)
      (λ z. let g' = rw z at g in let n : ◌≡◌ {A = ℕ} 0 1 = cc in absurd (omega arith))
      (λ z. let g' = rw z at g in
      let is : citation c.accent o ≡ m = cc in
      subst Few is (record { some = omega arith; few = omega arith }))

  of_places : (m : Listing) (f g : Option ℕ) → index_of s st.accents c.accent ≡ f → look_at s st c f g ≡ Some m → Few m
  of_places m (Some i) (Some t) a q = of_winner m i (get_or st.tones t 0) (index_found _ _ _ i a).inside (find_rule s st c i) refl q
  of_places m None g a q = let n : ◌≡◌ {A = ℕ} 0 1 = cc in absurd (omega arith)
  of_places m (Some i) None a q = let n : ◌≡◌ {A = ℕ} 0 1 = cc in absurd (omega arith)

pub look_few : (s : List ℕ) (st : PackRead) (e : ℕ) → read_pack s ≡ loaded st e → (c : Context) (l : Listing) → look_up s st c ≡ Some l → Few l
unfolding look_up
look_few s st e p c l q = of_places s st e (loads s st e p) c l (index_of s st.accents c.accent) (index_of s st.tones c.tone) refl q

-- a pack as its reader handed it back for these bytes, which load
record ReadFrom (s : List ℕ) (p : Pack) : Type 0 where
  end : ℕ
  reads : read_pack s ≡ loaded (records_of p) end

-- a pack that is held was read from its bytes
read_from : (s : List ℕ) (p : Pack) (o : Out PackRead) → read_pack s ≡ o → pack_in o ≡ Some (records_of p) → ReadFrom s p
read_from s p (loaded st e) q h = let is : st ≡ records_of p = cc in record { end = e; reads = q ∙ ap (λ (x : PackRead). loaded x e) is }
read_from s p (refused r place) q h = let n : ◌≡◌ {A = ℕ} 0 1 = cc in absurd (omega arith)

-- what a lookup in a pack that loads finds
abbrev pub Looked : List ℕ → Option Listing → Type 0
Looked s k = (l : Listing) → k ≡ Some l → Short s l

pub looked : (s : List ℕ) (p : Pack) → pack_in (read_pack s) ≡ Some (records_of p) → (c : Context) (k : Option Listing) → k ≡ look_up s (records_of p) c → Looked s k
looked s p h c k e l q =
    let r = read_from s p (read_pack s) refl h in
    let is : look_up s (records_of p) c ≡ Some l = sym e ∙ q in
    let f = look_few s (records_of p) r.end r.reads c l is in
    record { some = f.some; few = f.few; each = λ j h. listed_fine s (records_of p) r.end r.reads c l j is h }
