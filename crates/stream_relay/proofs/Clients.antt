-- What a client can tell of the chunks that it got.
use Rattle.std.proofs.Common.{◌≡◌, ℕ, ◌+◌, ◌++◌, List, [], ◌∷◌, true, length, take, drop, refl, sym, ap, ◌∙◌, subst, arith, append_assoc, append-nil, length-append, length-drop}
use Rattle.std.specs.Prelude.{All}
use Rattle.std.proofs.lemmas.Grind.{flat_map-append}
use Rattle.std.proofs.lemmas.List.{take-append-drop}
use Rattle.std.proofs.lemmas.List.Elements.{All-push}
use Rattle.body_frames.specs.Body.{First, whole, StandsFirst}
use Rattle.body_frames.specs.Chunks.{IsChunked, IsPiece, chunk_text, last_text}
use Rattle.body_frames.specs.declared.frame.Frame.{Frame}
use Rattle.stream_relay.specs.Relay.{OfPiece, OfEnd}
use Rattle.stream_relay.specs.Stream.{piece_text, pieces_text, joined, last_of}

abbrev pub OneLaw : Type 0
OneLaw = (f : Frame) (limit : ℕ) (bytes : List ℕ) (first second : First) → StandsFirst f limit bytes first
    → StandsFirst f limit bytes second → first ≡ second

abbrev pub WrittenLaw : Type 0
WrittenLaw = (pieces : List (List ℕ)) → All IsPiece pieces → IsChunked (pieces_text true pieces ++ last_of true) (joined pieces)

-- a whole text is no first part of another one
none_within : OneLaw → (text more b d : List ℕ) → IsChunked text b → IsChunked (text ++ more) d → more ≡ []
none_within one text more b d h k =
    let e = one Frame.Chunked (length b + length d) (text ++ more) (whole b more) (whole d [])
    (record { text = text; itself = refl; split = refl; is = (h, omega arith) })
    (record { text = text ++ more; itself = refl; split = sym (append-nil (text ++ more)); is = (k, omega arith) }) in
    cc

pub none_at_cut : OneLaw → WrittenLaw → (pieces : List (List ℕ)) (body : List ℕ) → All IsPiece pieces
    → IsChunked (pieces_text true pieces) body → ⊥
none_at_cut one written pieces body each h =
    let e = none_within one (pieces_text true pieces) last_text body (joined pieces) h (written pieces each) in
    absurd (cc e)

with_piece : (pieces : List (List ℕ)) (piece : List ℕ) (n : ℕ)
    → pieces_text true (pieces ++ piece ∷ []) ++ last_text
    ≡ (pieces_text true pieces ++ take n (chunk_text piece)) ++ (drop n (chunk_text piece) ++ last_text)
with_piece pieces piece n =
    let all = pieces_text true pieces in
    let chunk = chunk_text piece in
    ap (λ l. l ++ last_text) (flat_map-append (piece_text true) pieces (piece ∷ []) ∙ ap (λ l. all ++ l) (append-nil chunk))
    ∙ ap (λ l. (all ++ l) ++ last_text) (sym (take-append-drop n chunk))
    ∙ ap (λ l. l ++ last_text) (sym (append_assoc all (take n chunk) (drop n chunk)))
    ∙ append_assoc (all ++ take n chunk) (drop n chunk) last_text

pub none_within_piece : OneLaw → WrittenLaw → (pieces : List (List ℕ)) (more text body : List ℕ) → All IsPiece pieces
    → OfPiece true more text → IsChunked (pieces_text true pieces ++ text) body → ⊥
none_within_piece one written pieces more text body each k h =
    let chunk = chunk_text k.piece in
    let all = pieces_text true pieces in
    let is = written (pieces ++ k.piece ∷ []) (All-push IsPiece pieces k.piece each k.is_piece) in
    let e = none_within one (all ++ take k.count chunk) (drop k.count chunk ++ last_text) body (joined (pieces ++ k.piece ∷ []))
    (subst (λ l. IsChunked (all ++ l) body) k.text_is h)
    (subst (λ l. IsChunked l (joined (pieces ++ k.piece ∷ []))) (with_piece pieces k.piece k.count) is) in
    let l = ap length e in
    absurd (omega (arith, length-append (drop k.count chunk) last_text, l))

pub none_within_end : OneLaw → WrittenLaw → (f : Frame) (pieces : List (List ℕ)) (input more text body : List ℕ) → All IsPiece pieces
    → OfEnd f true input more text → IsChunked (pieces_text true pieces ++ text) body → ⊥
none_within_end one written f pieces input more text body each k h =
    let all = pieces_text true pieces in
    let split : all ++ last_text ≡ (all ++ take k.count last_text) ++ drop k.count last_text =
    ap (λ l. all ++ l) (sym (take-append-drop k.count last_text)) ∙ sym (append_assoc all (take k.count last_text) (drop k.count last_text)) in
    let e = none_within one (all ++ take k.count last_text) (drop k.count last_text) body (joined pieces)
    (subst (λ l. IsChunked (all ++ l) body) k.text_is h)
    (subst (λ l. IsChunked l (joined pieces)) split (written pieces each)) in
    let l = ap length e in
    let short = k.short in
    absurd (omega (arith, length-drop k.count last_text, l, short))
