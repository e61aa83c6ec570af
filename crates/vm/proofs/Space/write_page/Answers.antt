use Rattle.vm.proofs.Common.{◌≡◌, ◌+◌, ◌/◌, ◌%◌, take, drop, sym, ap, ◌∙◌, further_at, put, Memory, write_bytes}
use Rattle.vm.proofs.Common.{page_at, page_frame, read_at, right_marks, pages_in, mapping_of, pages_of}
use Rattle.vm.proofs.PageLemmas.{open-read, get-mapping, mapped-page}
use Rattle.vm.proofs.Remap.{page-inside-is, reframes-twice}
use Rattle.vm.proofs.StoreLemmas.{put-reads, put-reframes, put-written, write-page}
use Rattle.vm.proofs.Space.write_page.Goals as goal
use Rattle.vm.proofs.Space.write_page.Goals.{After-write_part}

pub write_part-requires-clause-frame : goal.write_part-requires-clause-frame
write_part-requires-clause-frame c =
    page-inside-is c.open_page-frame.ensures.opens.same.frames.space (c.args.address / 4096) c.open_page-frame.result.0
    c.requires.page c.open_page-frame.ensures.opens.frame

put-there : (c : After-write_part)
    → c.write_part.new.ram ≡ put c.open_page-frame.new.memory.ram
    (page_frame c.open_page-frame.new.memory.ram c.args.self.now (c.args.address / 4096)) (c.args.address % 4096)
    (take c.min-len.result c.args.bytes.now)
put-there c = c.write_part.ensures
    ∙ ap (λ f. put c.open_page-frame.new.memory.ram f (c.args.address % 4096) (take c.min-len.result c.args.bytes.now))
    (sym c.open_page-frame.ensures.opens.frame)

pub returns-clause-rest : goal.returns-clause-rest
returns-clause-rest c =
    let z = c.open_page-frame.new.memory.ram in
    let s = c.args.self.now in
    let p = c.args.address / 4096 in
    let bs = c.args.bytes.now in
    let same = c.open_page-frame.ensures.opens.same in
    let is = same.frames.space in
    let here = mapped-page z (mapping_of z s) p (read_at right_marks z s.root.0 p)
    (sym (get-mapping right_marks z s.root.0 (pages_in s.size) p c.requires.page)) in
    ap (λ (k : Memory). write_bytes k (c.args.address + c.min-len.result) (drop c.min-len.result bs))
    (put-written z c.write_part.new.ram s p (c.args.address % 4096) (take c.min-len.result bs) is.dense is.once
    c.requires.page (put-there (goal.at.returns-clause-rest c).After-write_part))
    ∙ write-page (pages_of z s) c.args.address c.min-len.result (page_at z s.root.0 p) bs c.requires.some here
    c.min-len.ensures
    ∙ ap (λ (k : Memory). write_bytes k c.args.address bs) same.pages

pub returns-clause-frames : goal.returns-clause-frames
returns-clause-frames c =
    let e = c.open_page-frame.ensures.opens in
    reframes-twice e.same.frames
    (put-reframes _ _ c.args.self.now _ (c.args.address / 4096) (c.args.address % 4096)
    (take c.min-len.result c.args.bytes.now) e.same.frames.space c.requires.page
    (ap (further_at c.open_page-frame.new.memory.frames) e.frame ∙ e.sole)
    (put-there (goal.at.returns-clause-frames c).After-write_part))

pub returns-clause-opens : goal.returns-clause-opens
returns-clause-opens c = λ first h.
    let e = c.open_page-frame.ensures.opens in
    open-read c.open_page-frame.new.memory.ram c.write_part.new.ram c.args.self.now.root.0
    (pages_in c.args.self.now.size)
    first
    (put-reads _ _ c.args.self.now (c.args.address / 4096) (c.args.address % 4096)
    (take c.min-len.result c.args.bytes.now) e.same.frames.space.dense e.same.frames.space.once c.requires.page
    (put-there (goal.at.returns-clause-opens c).After-write_part))
    (e.opens first h)
