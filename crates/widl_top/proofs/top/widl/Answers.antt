use Rattle.std.proofs.Common.{ap, subst, sym, ◌∙◌, inl, refl, ◌≡◌}
use Rattle.std.specs.Prelude.{Some, None}
use Rattle.widl_top.specs.Requests.{request_of, AnswersAtOnce}
use Rattle.widl_top.specs.declared.request.Request.TheVariants.{Help, Version, OverFiles}
use Rattle.widl_top.proofs.Asked.{IsAsked, writes_asked, part_asked, either_asked, same_or_part, writes_output, writes_part}
use Rattle.widl_top.proofs.top.widl.Goals as goal

pub returns-in-None-clause-output : goal.returns-in-None-clause-output
returns-in-None-clause-output g c told files m r w =
    let is : None ≡ request_of c.args.words.now = sym c.in-None.is ∙ c.read_request.ensures.request in
    writes_asked c.args.words.now None told _ _ _ is (writes_output (IsAsked c.args.words.now None told) _ _ _ _ _ _ refl c.last_line.ensures m w)

pub returns-in-None-clause-torn : goal.returns-in-None-clause-torn
returns-in-None-clause-torn g c told files calm w =
    let is : None ≡ request_of c.args.words.now = sym c.in-None.is ∙ c.read_request.ensures.request in
    part_asked c.args.words.now None told _ _ is (writes_part (IsAsked c.args.words.now None told) _ _ _ _ _ _ refl c.last_line.ensures w)

pub returns-in-None-clause-torn_fault : goal.returns-in-None-clause-torn_fault
returns-in-None-clause-torn_fault g c told files small w =
    let is : None ≡ request_of c.args.words.now = sym c.in-None.is ∙ c.read_request.ensures.request in
    inl (part_asked c.args.words.now None told _ _ is (writes_part (IsAsked c.args.words.now None told) _ _ _ _ _ _ refl c.last_line.ensures w))

pub returns-in-Some-Help-clause-output : goal.returns-in-Some-Help-clause-output
returns-in-Some-Help-clause-output g c told files m r w =
    let is : Some Help ≡ request_of c.args.words.now = sym (c.in-Some-Help.is ∙ ap Some c.in-Some-Help.field-0-is) ∙ c.read_request.ensures.request in
    writes_asked c.args.words.now (Some Help) told _ _ _ is (writes_output (IsAsked c.args.words.now (Some Help) told) _ _ _ _ _ _ refl c.last_line-in-Some-Help.ensures m w)

pub returns-in-Some-Help-clause-torn : goal.returns-in-Some-Help-clause-torn
returns-in-Some-Help-clause-torn g c told files calm w =
    let is : Some Help ≡ request_of c.args.words.now = sym (c.in-Some-Help.is ∙ ap Some c.in-Some-Help.field-0-is) ∙ c.read_request.ensures.request in
    part_asked c.args.words.now (Some Help) told _ _ is (writes_part (IsAsked c.args.words.now (Some Help) told) _ _ _ _ _ _ refl c.last_line-in-Some-Help.ensures w)

pub returns-in-Some-Help-clause-torn_fault : goal.returns-in-Some-Help-clause-torn_fault
returns-in-Some-Help-clause-torn_fault g c told files small w =
    let is : Some Help ≡ request_of c.args.words.now = sym (c.in-Some-Help.is ∙ ap Some c.in-Some-Help.field-0-is) ∙ c.read_request.ensures.request in
    inl (part_asked c.args.words.now (Some Help) told _ _ is (writes_part (IsAsked c.args.words.now (Some Help) told) _ _ _ _ _ _ refl c.last_line-in-Some-Help.ensures w))

pub returns-in-Some-Version-clause-output : goal.returns-in-Some-Version-clause-output
returns-in-Some-Version-clause-output g c told files m r w =
    let is : Some Version ≡ request_of c.args.words.now = sym (c.in-Some-Version.is ∙ ap Some c.in-Some-Version.field-0-is) ∙ c.read_request.ensures.request in
    writes_asked c.args.words.now (Some Version) told _ _ _ is (writes_output (IsAsked c.args.words.now (Some Version) told) _ _ _ _ _ _ refl c.last_line-in-Some-Version.ensures m w)

pub returns-in-Some-Version-clause-torn : goal.returns-in-Some-Version-clause-torn
returns-in-Some-Version-clause-torn g c told files calm w =
    let is : Some Version ≡ request_of c.args.words.now = sym (c.in-Some-Version.is ∙ ap Some c.in-Some-Version.field-0-is) ∙ c.read_request.ensures.request in
    part_asked c.args.words.now (Some Version) told _ _ is (writes_part (IsAsked c.args.words.now (Some Version) told) _ _ _ _ _ _ refl c.last_line-in-Some-Version.ensures w)

pub returns-in-Some-Version-clause-torn_fault : goal.returns-in-Some-Version-clause-torn_fault
returns-in-Some-Version-clause-torn_fault g c told files small w =
    let is : Some Version ≡ request_of c.args.words.now = sym (c.in-Some-Version.is ∙ ap Some c.in-Some-Version.field-0-is) ∙ c.read_request.ensures.request in
    inl (part_asked c.args.words.now (Some Version) told _ _ is (writes_part (IsAsked c.args.words.now (Some Version) told) _ _ _ _ _ _ refl c.last_line-in-Some-Version.ensures w))

pub returns-in-Some-OverFiles-clause-output : goal.returns-in-Some-OverFiles-clause-output
returns-in-Some-OverFiles-clause-output g c told files m r w =
    let is : Some (OverFiles c.in-Some-OverFiles.command) ≡ request_of c.args.words.now = sym (c.in-Some-OverFiles.is ∙ ap Some c.in-Some-OverFiles.field-0-is) ∙ c.read_request.ensures.request in
    writes_asked c.args.words.now (Some (OverFiles c.in-Some-OverFiles.command)) told _ _ _ is (c.answer_files.ensures.ends.written told files m r w)

pub returns-in-Some-OverFiles-clause-torn : goal.returns-in-Some-OverFiles-clause-torn
returns-in-Some-OverFiles-clause-torn g c told files calm w =
    let is : Some (OverFiles c.in-Some-OverFiles.command) ≡ request_of c.args.words.now = sym (c.in-Some-OverFiles.is ∙ ap Some c.in-Some-OverFiles.field-0-is) ∙ c.read_request.ensures.request in
    part_asked c.args.words.now (Some (OverFiles c.in-Some-OverFiles.command)) told _ _ is (c.answer_files.ensures.ends.torn told files calm w)

pub returns-in-Some-OverFiles-clause-torn_fault : goal.returns-in-Some-OverFiles-clause-torn_fault
returns-in-Some-OverFiles-clause-torn_fault g c told files small w =
    let is : Some (OverFiles c.in-Some-OverFiles.command) ≡ request_of c.args.words.now = sym (c.in-Some-OverFiles.is ∙ ap Some c.in-Some-OverFiles.field-0-is) ∙ c.read_request.ensures.request in
    either_asked c.args.words.now (Some (OverFiles c.in-Some-OverFiles.command)) told _ _ _ is (c.answer_files.ensures.ends.torn_fault told files small w)

pub returns-in-None-clause-short_part : goal.returns-in-None-clause-short_part
returns-in-None-clause-short_part g c told files e = inl (c.last_line.ensures.short e)

pub returns-in-Some-Help-clause-short_part : goal.returns-in-Some-Help-clause-short_part
returns-in-Some-Help-clause-short_part g c told files e = inl (c.last_line-in-Some-Help.ensures.short e)

pub returns-in-Some-Version-clause-short_part : goal.returns-in-Some-Version-clause-short_part
returns-in-Some-Version-clause-short_part g c told files e = inl (c.last_line-in-Some-Version.ensures.short e)

pub returns-in-Some-OverFiles-clause-short : goal.returns-in-Some-OverFiles-clause-short
returns-in-Some-OverFiles-clause-short g c at_once e =
    let is : Some (OverFiles c.in-Some-OverFiles.command) ≡ request_of c.args.words.now = sym (c.in-Some-OverFiles.is ∙ ap Some c.in-Some-OverFiles.field-0-is) ∙ c.read_request.ensures.request in
    c.answer_files.ensures.ends.short (subst AnswersAtOnce (sym is) at_once) e

pub returns-in-Some-OverFiles-clause-short_part : goal.returns-in-Some-OverFiles-clause-short_part
returns-in-Some-OverFiles-clause-short_part g c told files e =
    let is : Some (OverFiles c.in-Some-OverFiles.command) ≡ request_of c.args.words.now = sym (c.in-Some-OverFiles.is ∙ ap Some c.in-Some-OverFiles.field-0-is) ∙ c.read_request.ensures.request in
    same_or_part c.args.words.now (Some (OverFiles c.in-Some-OverFiles.command)) told _ _ is (c.answer_files.ensures.ends.short_part told files e)

pub returns-in-Some-OverFiles-clause-short_fault : goal.returns-in-Some-OverFiles-clause-short_fault
returns-in-Some-OverFiles-clause-short_fault g c grew e = c.answer_files.ensures.ends.short_fault grew e
