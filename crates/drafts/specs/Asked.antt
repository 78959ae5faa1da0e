-- What a writer's request asks for.
-- Assumes nothing.
use Rattle.std.specs.Prelude.{vec_items}
use Rattle.making.specs.Request as making
use Rattle.drafts.specs.declared.request.Request.{Request}
use Rattle.drafts.specs.Parts.{request_from}

abbrev pub asked_by : Request → making.Request
asked_by r = request_from r.sheet.0 (vec_items r.texts) (vec_items r.adds) (vec_items r.kills)
