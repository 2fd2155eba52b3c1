-- Worked examples of the one reader, computed: a format of records of two bytes (kind 1 and a value above 0; one or two of them), and an End of kind 2.
use Rattle.std.specs.Prelude.{ℕ, ◌+◌, ◌≡◌, refl, List, [], ◌∷◌, cond, eqb, ltb, ◌&&◌, ◌||◌, Result, Ok, Err}
use Rattle.tonekit_core.specs.Loop.{loop_to, loop_on}
use Rattle.tonekit_core.specs.declared.Refusal.{Refusal}
use Rattle.tonekit_core.specs.declared.Refusal.TheVariants.{Misplaced, CutShort, Overrun, OffScale}
use Rattle.spec_arithmetic.specs.Fields.{byte_at}
use Rattle.spec_arithmetic.specs.Files.{judged, loaded, refused, Reader, read, single_file, said}

abbrev size_of : ℕ → ℕ
size_of k = cond (eqb k 1) 2 1

abbrev value_verdict : List ℕ → ℕ → ℕ → Result Unit Refusal
value_verdict s o k = cond (eqb k 1 && eqb (byte_at s (o + 1)) 0) (Err OffScale) (Ok tt)

-- what is read of such a file: how many records
abbrev counted : Reader ℕ
counted = record {
  start = record { at = 0; st = 0 };
  verdict = λ s o n. judged (λ k. (eqb k 1 && ltb n 2) || (eqb k 2 && ltb 0 n)) size_of (value_verdict s o) s o;
  size = size_of;
  added = λ s o n. n + 1;
  end = 2;
  finish = λ s o n. loaded n (o + 1);
}

two : read counted (1 ∷ 7 ∷ 1 ∷ 8 ∷ 2 ∷ []) ≡ loaded 2 5
unfolding loop_to loop_on
two = refl

-- "past the input's end a due record is missing: 2", at the input's end
nothing : read counted [] ≡ refused CutShort 0
unfolding loop_to loop_on
nothing = refl

no_end : read counted (1 ∷ 7 ∷ []) ≡ refused CutShort 2
unfolding loop_to loop_on
no_end = refl

-- a kind that there is not, and an End with no record before it
unknown_kind : read counted (3 ∷ []) ≡ refused Misplaced 0
unfolding loop_to loop_on
unknown_kind = refl

end_first : read counted (2 ∷ []) ≡ refused Misplaced 0
unfolding loop_to loop_on
end_first = refl

-- a record that the input cuts; one that is not due is misplaced, though it is cut too: "in each 1, 2, 4, 5, 6, 7"
cut : read counted (1 ∷ 7 ∷ 1 ∷ []) ≡ refused CutShort 2
unfolding loop_to loop_on
cut = refl

third : read counted (1 ∷ 7 ∷ 1 ∷ 8 ∷ 1 ∷ []) ≡ refused Misplaced 4
unfolding loop_to loop_on
third = refl

-- a value out of its range, in the second record: "place is the offset of the first such record"
off_scale : read counted (1 ∷ 7 ∷ 1 ∷ 0 ∷ 9 ∷ []) ≡ refused OffScale 2
unfolding loop_to loop_on
off_scale = refl

-- a byte behind the file is no matter to a file at the front; to a single one it is surplus, and the first of two is the place
front : read counted (1 ∷ 7 ∷ 2 ∷ 0 ∷ 0 ∷ []) ≡ loaded 1 3
unfolding loop_to loop_on
front = refl

behind : single_file (1 ∷ 7 ∷ 2 ∷ 0 ∷ 0 ∷ []) (read counted (1 ∷ 7 ∷ 2 ∷ 0 ∷ 0 ∷ [])) ≡ refused Overrun 3
unfolding loop_to loop_on
behind = refl

alone : single_file (1 ∷ 7 ∷ 2 ∷ []) (read counted (1 ∷ 7 ∷ 2 ∷ [])) ≡ loaded 1 3
unfolding loop_to loop_on
alone = refl

-- a check says no more than the refusal and its place
said_no : said (read counted (1 ∷ 0 ∷ [])) ≡ Err (record { why = OffScale; place = 0 })
unfolding loop_to loop_on
said_no = refl
