-- Document 01's writer of a file, over byte lists: what it refuses and gives, and its output.
use Rattle.std.specs.Prelude.{cond, List, ℕ, ◌*◌, ◌/◌, ◌%◌, eqb, ltb, length, None, Option, Some}
use Rattle.limits.specs.Limits.{most_cuts}
use Rattle.theory_lists.specs.First.{first_nonzero}
use Rattle.theory_lists.specs.Front.{in_front}
use Rattle.theory_lists.specs.ListOf.{list_of}
use Rattle.session.specs.Opening.{early_opening}
use Rattle.session_cuts.specs.declared.Cut.{Cut}
use Rattle.session_cutting.specs.Cutting.{malformed}
use Rattle.file_format.specs.Format.{cut_length, file_length, numbered_at, known, file}
use Rattle.file_writing.specs.Writing.{WriteAnswer}
use Rattle.c_lists.specs.Profiles.{ByteProfile, byte_length_refusal, profile_of}

-- the refusal of a numbered cut by itself: an unknown kind is 12
abbrev pub numbered_refusal : ℕ → Option Cut → ℕ
numbered_refusal n (Some c) = malformed n c
numbered_refusal n None = 12

-- the cuts in a list of 8 bytes each whose kinds are known
unfoldable pub cuts_in_bytes : List ℕ → List Cut
cuts_in_bytes b = list_of (λ j. known (numbered_at b (j * cut_length))) (length b / cut_length)

-- 1 for more than 512 cuts, then the refusal of the profile's own lengths, then 2 for a list of cuts with that many bytes that is of the wrong length; else 0
unfoldable pub lengths_refusal : ℕ → ℕ → ℕ
lengths_refusal lists cuts = cond (ltb most_cuts (cuts / cut_length)) 1 (cond (eqb lists 0) (cond (eqb (cuts % cut_length) 0) 0 2) lists)

-- 1, 2, then 3, 4, 5, 6, 13 as opening does, then each cut in order as cutting does: the first refusal before the output's length that applies, or 0
unfoldable pub early_writing_over : ByteProfile → List ℕ → ℕ
early_writing_over h b =
    let lengths : ℕ = lengths_refusal (byte_length_refusal h) (length b) in
    let values : ℕ = early_opening (profile_of h) in
    cond (eqb lengths 0)
    (cond (eqb values 0) (first_nonzero (λ j. numbered_refusal h.numbers.days (numbered_at b (j * cut_length))) (length b / cut_length)) values)
    lengths

-- the first refusal of writing that applies, or 0, with an output of that length: 2 where the output is too short
unfoldable pub writing_refusal_over : ByteProfile → List ℕ → ℕ → ℕ
writing_refusal_over h b room =
    let early : ℕ = early_writing_over h b in
    cond (eqb early 0) (cond (ltb room (file_length h.numbers.days (length b / cut_length))) 2 0) early

-- the file's length, or 0 beside a refusal's number
unfoldable pub write_over : ByteProfile → List ℕ → ℕ → WriteAnswer
write_over h b room =
    let refusal : ℕ = writing_refusal_over h b room in
    cond (eqb refusal 0) (record { refusal = 0; length = file_length h.numbers.days (length b / cut_length) }) (record { refusal = refusal; length = 0 })

-- the output afterwards: the file at its front, or as it was beside a refusal
unfoldable pub output_over : ByteProfile → List ℕ → List ℕ → List ℕ
output_over h b l = cond (eqb (writing_refusal_over h b (length l)) 0) (in_front (file (profile_of h) (cuts_in_bytes b)) l) l
