-- Runs that are appended one after the other make an acknowledgment.
use Rattle.std.proofs.Common.{◌≡◌, ℕ, List, [], ◌∷◌, ◌++◌, codes, append_assoc, sym, ap, ◌∙◌}
use Rattle.std.proofs.lemmas.Grind.{flat_map-append}
use Rattle.std.proofs.lemmas.List.{append-nil}
use Rattle.std.specs.Option.{option_map, option_to_list}
use Rattle.hl7_head.specs.declared.ack.AckPart.{AckPart}
use Rattle.hl7_head.specs.Ack.{ack, cause_text, code_text, fields_text, reply_id, reply_mode, reply_type}
use Rattle.hl7_head.specs.Header.{Msh}
use Rattle.hl7_head.specs.Stamp.{stamp}
use Rattle.hl7_head.specs.inner.Ack.{answer_text, between_text, header_text, routing_text}

-- fields in two goes
two_goes : (s : ℕ) (before name : List ℕ) (first second : List (List ℕ))
    → (before ++ (name ++ fields_text s first)) ++ fields_text s second ≡ before ++ (name ++ fields_text s (first ++ second))
two_goes s before name first second =
    append_assoc before (name ++ fields_text s first) (fields_text s second)
    ∙ ap (λ l. before ++ l)
    (append_assoc name (fields_text s first) (fields_text s second)
    ∙ ap (λ l. name ++ l) (sym (flat_map-append (λ field. s ∷ field) first second)))

-- three texts after one another
three : (before a b c : List ℕ) → ((before ++ a) ++ b) ++ c ≡ before ++ (a ++ (b ++ c))
three before a b c = simp append_assoc

-- the name, a field and two pairs
pub routed : (h : Msh) (before named encoded received sent : List ℕ)
    → named ≡ before ++ 77 ∷ 83 ∷ 72 ∷ h.delims.field ∷ [] → encoded ≡ named ++ h.encoding_characters
    → received ≡ encoded ++ fields_text h.delims.field (h.receiving_application ∷ h.receiving_facility ∷ [])
    → sent ≡ received ++ fields_text h.delims.field (h.sending_application ∷ h.sending_facility ∷ [])
    → sent ≡ before ++ routing_text h
routed h before named encoded received sent e1 e2 e3 e4 =
    let s = h.delims.field in
    let start : List ℕ = 77 ∷ 83 ∷ 72 ∷ s ∷ h.encoding_characters in
    let receivers : List (List ℕ) = h.receiving_application ∷ h.receiving_facility ∷ [] in
    let senders : List (List ℕ) = h.sending_application ∷ h.sending_facility ∷ [] in
    let first : encoded ≡ before ++ start = rw (e2, e1) (append_assoc before (77 ∷ 83 ∷ 72 ∷ s ∷ []) h.encoding_characters) in
    rw (e4, e3, first)
    (three before start (fields_text s receivers) (fields_text s senders)
    ∙ ap (λ l. before ++ (start ++ l)) (sym (flat_map-append (λ field. s ∷ field) receivers senders)))

-- one field more
one_more : (s : ℕ) (before name field : List ℕ) (fields : List (List ℕ))
    → (before ++ (name ++ fields_text s fields)) ++ s ∷ field ≡ before ++ (name ++ fields_text s (fields ++ field ∷ []))
one_more s before name field fields =
    ap (λ l. (before ++ (name ++ fields_text s fields)) ++ s ∷ l) (sym (append-nil field)) ∙ two_goes s before name fields (field ∷ [])

-- MSH-2 to MSH-12 in five goes
pub headed : (h : Msh) (moment : ℕ) (id before routed stamped typed identified copied : List ℕ)
    → routed ≡ before ++ routing_text h
    → stamped ≡ routed ++ h.delims.field ∷ stamp moment
    → typed ≡ stamped ++ fields_text h.delims.field ([] ∷ reply_type h ∷ [])
    → identified ≡ typed ++ h.delims.field ∷ id
    → copied ≡ identified ++ fields_text h.delims.field (h.processing_id ∷ h.version_id ∷ [])
    → copied ≡ before ++ header_text h moment id
headed h moment id before routed stamped typed identified copied e1 e2 e3 e4 e5 =
    let s = h.delims.field in
    let front : List (List ℕ) = h.encoding_characters ∷ h.receiving_application ∷ h.receiving_facility ∷ h.sending_application ∷ h.sending_facility ∷ [] in
    let dated : stamped ≡ before ++ (codes "MSH" ++ fields_text s (front ++ stamp moment ∷ [])) = rw (e2, e1) (one_more s before (codes "MSH") (stamp moment) front) in
    let kinded : typed ≡ before ++ (codes "MSH" ++ fields_text s ((front ++ stamp moment ∷ []) ++ [] ∷ reply_type h ∷ [])) = rw (e3, dated) (two_goes s before (codes "MSH") (front ++ stamp moment ∷ []) ([] ∷ reply_type h ∷ [])) in
    let named : identified ≡ before ++ (codes "MSH" ++ fields_text s (((front ++ stamp moment ∷ []) ++ [] ∷ reply_type h ∷ []) ++ id ∷ [])) = rw (e4, kinded) (one_more s before (codes "MSH") id ((front ++ stamp moment ∷ []) ++ [] ∷ reply_type h ∷ [])) in
    rw (e5, named) (two_goes s before (codes "MSH") (((front ++ stamp moment ∷ []) ++ [] ∷ reply_type h ∷ []) ++ id ∷ []) (h.processing_id ∷ h.version_id ∷ []))

-- the two segments, which are appended in three goes
regroup : (before msh front mode end msa sep code id cause : List ℕ)
    → ((before ++ (msh ++ front)) ++ (((mode ++ (end ++ msa)) ++ (sep ++ code)) ++ sep)) ++ ((id ++ cause) ++ end)
    ≡ before ++ (((msh ++ (front ++ mode)) ++ end) ++ ((msa ++ ((sep ++ code) ++ ((sep ++ id) ++ cause))) ++ end))
regroup before msh front mode end msa sep code id cause = simp append_assoc

pub answered : (h : Msh) (part : AckPart) (moment connection number : ℕ) (before front_done between done : List ℕ)
    → front_done ≡ before ++ header_text h moment (reply_id connection number)
    → between ≡ front_done ++ between_text h.delims.field part.enhanced part.code
    → done ≡ between ++ answer_text h part.cause
    → done ≡ before ++ ack h part moment connection number
answered h part moment connection number before front_done between done e1 e2 e3 =
    let s = h.delims.field in
    let front : List (List ℕ) = h.encoding_characters ∷ h.receiving_application ∷ h.receiving_facility ∷ h.sending_application ∷ h.sending_facility ∷ stamp moment ∷ [] ∷ reply_type h ∷ reply_id connection number ∷ h.processing_id ∷ h.version_id ∷ [] in
    let cause : List ℕ = fields_text s (option_to_list (option_map cause_text part.cause)) in
    rw (e3, e2, e1)
    (regroup before (codes "MSH") (fields_text s front) (fields_text s (reply_mode part.enhanced)) (13 ∷ []) (codes "MSA") (s ∷ []) (code_text part.code) h.control_id cause
    ∙ ap (λ fields. before ++ (((codes "MSH" ++ fields) ++ 13 ∷ []) ++ ((codes "MSA" ++ ((s ∷ code_text part.code) ++ ((s ∷ h.control_id) ++ cause))) ++ 13 ∷ [])))
    (sym (flat_map-append (λ field. s ∷ field) front (reply_mode part.enhanced))))
