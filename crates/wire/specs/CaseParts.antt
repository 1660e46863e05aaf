-- What the two parts of a case stand for: the case whose head the bytes are, and the figures of a resource.
use Rattle.market.specs.Case.{Case, Resource}
use Rattle.market.specs.CaseFile.{case_of, resource_in}
use Rattle.wire.specs.declared.case_parts.CaseHead.{CaseHead}
use Rattle.wire.specs.declared.case_parts.ResourceBytes.{ResourceBytes}

abbrev pub head_of : CaseHead → Case
head_of head = case_of head.bytes.now

abbrev pub figures_of : ResourceBytes → Resource
figures_of resource = resource_in resource.bytes.now resource.at
